-- Many lines: bytes in parts, a file's lines, files joined, and a file as single calls. Assumes nothing.
use Rattle.std.specs.Prelude.{◌≡◌, refl, ◌↔◌, ℕ, zero, suc, ◌*◌, ◌≤◌, ◌<◌, length, take, drop, Err, Ok}
use Rattle.std.proofs.Common.{sym, ap, ◌∙◌, subst, not-suc-le-zero, arith, length-append, length-drop, take-append-drop, drop_of_length-le, length-take-le, take_all}
use mathlib.Core.List.{List, [], ◌∷◌, ◌++◌, flatten, append-nil}
use Rattle.std.proofs.Math.Decide.{dec_le}
use Rattle.std.proofs.lemmas.List.{take-append-le, drop-append-le}
use Rattle.answer.specs.Rules.{Answer}
use Rattle.checker.specs.Line.{line_bytes}
use Rattle.checker.specs.Machine.{start, step_of}
use Rattle.files.specs.File.{Lines, empty, short, full, cut, lines_of, unless, steps, end_of, outcome, finish, check_file}
use Rattle.checker.specs.Calls.{left}
use Rattle.checker.specs.declared.Checker.{Checker}
use Rattle.checker.specs.declared.Stepped.{Stepped}
use Rattle.files.specs.File.{Outcome}

-- the answers of calls
unfoldable pub answers : Checker → List (List ℕ) → List Answer
answers s [] = []
answers s (l ∷ ls) = (step_of s l).answer ∷ answers (step_of s l).state ls

-- the first refusal among answers; none: the end's outcome
unfoldable pub first_of : List Answer → Outcome → Outcome
first_of [] end = end
first_of (a ∷ later) end = outcome a (first_of later end)

-- ---- the lines of bytes

-- more parts than bytes change nothing
enough : (j k : ℕ) (d : List ℕ) → length d ≤ j → length d ≤ k → cut j d ≡ cut k d
unfolding cut
enough zero zero d p q = refl
enough zero (suc k) [] p q = refl
enough zero (suc k) (b ∷ d) p q = absurd (not-suc-le-zero p)
enough (suc j) zero [] p q = refl
enough (suc j) zero (b ∷ d) p q = absurd (not-suc-le-zero q)
enough (suc j) (suc k) [] p q = refl
enough (suc j) (suc k) (b ∷ d) p q =
    let rest = drop line_bytes (b ∷ d) in
    ap (λ (ls : List (List ℕ)). take line_bytes (b ∷ d) ∷ ls) (enough j k rest (simp length-drop (omega arith)) (simp length-drop (omega arith)))

pub no_lines : lines_of [] ≡ []
unfolding cut
no_lines = refl

pub next_line : (d : List ℕ) → 0 < length d → lines_of d ≡ take line_bytes d ∷ lines_of (drop line_bytes d)
unfolding cut
next_line [] h = absurd (not-suc-le-zero h)
next_line (b ∷ d) h =
    let rest = drop line_bytes (b ∷ d) in
    ap (λ (ls : List (List ℕ)). take line_bytes (b ∷ d) ∷ ls) (enough (length d) (length rest) rest (simp length-drop (omega arith)) (omega arith))

-- whole lines, then more bytes
pub lines_append : (k : ℕ) (a b : List ℕ) → length a ≡ k * line_bytes → lines_of (a ++ b) ≡ lines_of a ++ lines_of b
lines_append zero [] b e = rw no_lines
lines_append zero (x ∷ a) b e = absurd (omega arith)
lines_append (suc k) a b e =
    let long : line_bytes ≤ length a = omega arith in
    let more = next_line a (omega arith) in
    let both = next_line (a ++ b) (rw length-append (omega arith)) in
    both
    ∙ rw (take-append-le line_bytes a b long, drop-append-le line_bytes a b long, more)
    (ap (λ (ls : List (List ℕ)). take line_bytes a ∷ ls) (lines_append k (drop line_bytes a) b (simp length-drop (omega arith))))

cut_joined : (k : ℕ) (d : List ℕ) → length d ≤ k → flatten (cut k d) ≡ d
unfolding cut flatten
cut_joined zero [] h = refl
cut_joined zero (b ∷ d) h = absurd (not-suc-le-zero h)
cut_joined (suc k) [] h = refl
cut_joined (suc k) (b ∷ d) h = rw (cut_joined k (drop line_bytes (b ∷ d)) (simp length-drop (omega arith))) (take-append-drop line_bytes (b ∷ d))

cut_none : (k : ℕ) → cut k [] ≡ []
unfolding cut
cut_none zero = refl
cut_none (suc k) = refl

cut_lines : (k : ℕ) (d : List ℕ) → Lines (cut k d)
unfolding cut
cut_lines zero d = empty
cut_lines (suc k) [] = empty
cut_lines (suc k) (b ∷ d) = go (dec_le line_bytes (length (b ∷ d))) (cut_lines k (drop line_bytes (b ∷ d)))
  where
    here : List ℕ
    here = b ∷ d

    go : Dec (line_bytes ≤ length here) → Lines (cut k (drop line_bytes here)) → Lines (take line_bytes here ∷ cut k (drop line_bytes here))
    go (yes h) on = full (take line_bytes here) (length-take-le line_bytes here h) on
    go (no h) on =
        rw (drop_of_length-le here {i = line_bytes} (omega arith), cut_none k, take_all line_bytes here (omega arith))
        (short here (omega arith) (omega arith))

-- all lines but the last have 242 bytes, none is empty, and joined they give the bytes back
pub lines_shaped : (bytes : List ℕ) → Lines (lines_of bytes)
lines_shaped bytes = cut_lines (length bytes) bytes

pub lines_joined : (bytes : List ℕ) → flatten (lines_of bytes) ≡ bytes
lines_joined bytes = cut_joined (length bytes) bytes (omega arith)

-- one line's bytes are that line
pub one_line : (l : List ℕ) → 1 ≤ length l → length l ≤ line_bytes → lines_of l ≡ l ∷ []
one_line l p q = rw (next_line l p, drop_of_length-le l {i = line_bytes} q, take_all line_bytes l q, no_lines)

joined_lines : {ls : List (List ℕ)} → Lines ls → lines_of (flatten ls) ≡ ls
unfolding flatten
joined_lines empty = no_lines
joined_lines (short l p q) = rw append-nil (one_line l p (omega arith))
joined_lines (full l {ls} p on) = rw (lines_append 1 l (flatten ls) (omega arith), one_line l (omega arith) (omega arith), joined_lines on)

-- and there is no other way to cut them so
pub lines_are : (bytes : List ℕ) (ls : List (List ℕ)) → lines_of bytes ≡ ls ↔ (Lines ls × (flatten ls ≡ bytes))
lines_are bytes ls = (
  λ e. subst (λ (x : List (List ℕ)). Lines x × (flatten x ≡ bytes)) e (lines_shaped bytes, lines_joined bytes),
  λ h. ap lines_of (sym h.1) ∙ joined_lines h.0,
)

-- ---- lines, then more lines

pub steps_append : (s : Checker) (xs ys : List (List ℕ)) → steps s (xs ++ ys) ≡ unless (steps s xs).answer (steps (steps s xs).state ys) (steps s xs)
unfolding steps
steps_append s [] ys = refl
steps_append s (l ∷ xs) ys = go (step_of s l).answer refl (steps_append (step_of s l).state xs ys)
  where
    on : List (List ℕ) → Stepped
    on ls = steps (step_of s l).state ls

    go : (a : Answer) → (step_of s l).answer ≡ a → on (xs ++ ys) ≡ unless (on xs).answer (steps (on xs).state ys) (on xs)
        → unless a (on (xs ++ ys)) (step_of s l)
        ≡ unless (unless a (on xs) (step_of s l)).answer (steps (unless a (on xs) (step_of s l)).state ys) (unless a (on xs) (step_of s l))
    go (Ok tt) e h = h
    go (Err r) e h = rw e

-- ---- a file as single calls

steps_are_calls : (s : Checker) (ls : List (List ℕ)) → outcome (steps s ls).answer (end_of (steps s ls).state) ≡ first_of (answers s ls) (end_of (left s ls))
unfolding steps answers left first_of
steps_are_calls s [] = refl
steps_are_calls s (l ∷ ls) = go (step_of s l).answer refl (steps_are_calls (step_of s l).state ls)
  where
    on : Stepped
    on = steps (step_of s l).state ls

    end : Outcome
    end = first_of (answers (step_of s l).state ls) (end_of (left (step_of s l).state ls))

    go : (a : Answer) → (step_of s l).answer ≡ a → outcome on.answer (end_of on.state) ≡ end
        → outcome (unless a on (step_of s l)).answer (end_of (unless a on (step_of s l)).state) ≡ outcome a end
    go (Ok tt) e h = h
    go (Err r) e h = rw e

-- the end of the input, and a whole file, are its lines one call each: the first refusal, or the end's outcome
pub finish_is_calls : (s : Checker) (rest : List ℕ) → finish s rest ≡ first_of (answers s (lines_of rest)) (end_of (left s (lines_of rest)))
unfolding finish
finish_is_calls s rest = steps_are_calls s (lines_of rest)

pub file_is_calls : (file : List ℕ) → check_file file ≡ first_of (answers start (lines_of file)) (end_of (left start (lines_of file)))
file_is_calls file = finish_is_calls start file
