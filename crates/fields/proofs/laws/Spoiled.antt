-- The record that spoiled fields make is refused, and so is every record with such bytes and with one such number: whatever is set over the other
-- numbers. Assumes nothing.
use Rattle.fields.proofs.laws.Wide.{carrier}
use Rattle.std.specs.Prelude.{◌≡◌, refl, Bool, true, false, cond, ◌||◌, List, [], ◌∷◌, ℕ, zero, suc, ◌-◌, ◌^◌, ◌≤◌, ◌<◌, T, ltb, eqb, length, get_or, drop, replicate, Ok, Some}
use Rattle.std.proofs.Common.{sym, ap, subst, ◌∙◌, arith, not-suc-le-zero, le_of_suc-le-suc, ltb-true, eqb→eq, lit≤}
use Rattle.std.proofs.lemmas.List.{get_or-replicate}
use Rattle.answer.specs.Rules.{first_broken, AllKept}
use Rattle.answer.proofs.laws.Order.{never, never_refused, accepted_kept, front_accepted}
use Rattle.digits.proofs.laws.Strings.{part_get_or}
use Rattle.layout.specs.Field.{Field, part, none}
use Rattle.layout.specs.Table.{fields_of, record_bytes}
use Rattle.layout.specs.Kinds.{Held, a_number, as_number, as_bytes, as_fixed}
use Rattle.layout.specs.Record.{printable, all_printable, first_rules, rules_of, record_rules, field_rules}
use Rattle.layout.proofs.laws.Bytes.{and_left, and_right, printable_turn}
use Rattle.layout.specs.inner.Entries.{width}
use Rattle.layout.proofs.laws.Tiling.{Inside, insides, at}
use Rattle.layout.specs.declared.Direction.{Direction}
use Rattle.layout.specs.declared.Record.{Record}
use Rattle.layout.specs.declared.Record.TheVariants.{FileTrailer}
use Rattle.layout.specs.Records.{code}
use Rattle.layout.proofs.laws.Records.{each, same_code}
use Rattle.answer.specs.Sums.{largest}
use Rattle.fields.specs.Values.{held_as, record_of, nth, spoiled}
use Rattle.fields.proofs.laws.Parts.{record_length, holds}
use Rattle.fields.proofs.laws.Kept.{back_accepted, rules_at}
use Rattle.fields.proofs.laws.TooWide.{too_wide}
use Rattle.fields.specs.declared.Fields.{Fields}

-- no byte is printable, and the number behind those that the writer fills is too wide
abbrev pub ruined_at : ℕ
ruined_at = 6

pub record Ruined (v : Fields) : Type 0 where
  pub text : v.text ≡ replicate record_bytes 0
  pub number : nth ruined_at v ≡ Some largest

-- spoiled fields are so
pub spoiled_ruined : (r : Record) → Ruined (spoiled r)
spoiled_ruined r = record { text = refl; number = refl }

-- each of printable bytes is
module _ (bs : List ℕ) (e : all_printable bs ≡ true) where
  printable_behind : (i : ℕ) → i ≤ length bs → all_printable (drop i bs) ≡ true
  printable_behind zero h = e
  printable_behind (suc i) h = and_right (printable (get_or bs i 0)) _ (sym (printable_turn bs i h) ∙ printable_behind i (omega arith))

  printable_at : (i : ℕ) → i < length bs → printable (get_or bs i 0) ≡ true
  printable_at i h = and_left (printable (get_or bs i 0)) _ (sym (printable_turn bs i h) ∙ printable_behind i (omega arith))

module _ (r : Record) (d : Direction) (v : Fields) (text : v.text ≡ replicate record_bytes 0) (j : ℕ) (h : j < length (fields_of r)) where
  full : length v.text ≡ record_bytes
  full = rw text

  -- the first byte of a field
  first_of : (bs : List ℕ) → let f = get_or (fields_of r) j none in get_or (part f bs) 0 0 ≡ get_or bs (f.from - 1) 0
  first_of bs =
      let f = get_or (fields_of r) j none in
      let i = at Inside (fields_of r) (insides r) j h in
      let e : f.from - 1 - (f.from - 1) ≡ 0 = omega arith in
      rw e at (part_get_or bs (f.from - 1) (width f) (f.from - 1) 0 (omega arith) (omega arith))

  -- a field that is held as bytes
  no_bytes : {A : Type 0} → held_as (get_or (fields_of r) j none) ≡ as_bytes → all_printable (record_of r v) ≡ true → A
  no_bytes a e =
      let f = get_or (fields_of r) j none in
      let rec = record_of r v in
      let i = at Inside (fields_of r) (insides r) j h in
      let there : f.from - 1 < record_bytes = omega arith in
      let same : part f rec ≡ part f v.text = rw a at (holds r v full j h) in
      let zero-there : get_or rec (f.from - 1) 0 ≡ 0 =
      sym (first_of rec) ∙ ap (λ (bs : List ℕ). get_or bs 0 0) same ∙ first_of v.text ∙ rw text (get_or-replicate {A = ℕ} record_bytes (f.from - 1) 0 0 there) in
      let inside : f.from - 1 < length rec = rw (record_length r v full) there in
      never (rw zero-there at (printable_at rec e (f.from - 1) inside))

  -- a field that is held as a number, and has its own rule
  no_number : {A : Type 0} {n : ℕ} → let f = get_or (fields_of r) j none in carrier f ≡ f → held_as f ≡ as_number → nth j v ≡ Some n
      → 10 ^ width (get_or (fields_of r) j none) ≤ n → first_broken (rules_of (fields_of r) d (record_of r v)) ≡ Ok tt → A
  no_number own a q l e =
      let rec = record_of r v in
      let kept = front_accepted _ _ (back_accepted (rules_of _ d rec) _ (rw (rules_at (fields_of r) d rec j h) at e)) in
      never_refused (sym kept ∙ ap (λ (f : Field). first_broken (field_rules f d rec)) (sym own) ∙ too_wide r d v full j h a q l)

-- ---- a field of bytes: every record has one but the file trailer, which has a number there

abbrev is_bytes : Held → Bool
is_bytes (a_number p) = false
is_bytes as_bytes = true
is_bytes (as_fixed content) = false

is-bytes : (h : Held) → is_bytes h ≡ true → h ≡ as_bytes
is-bytes (a_number p) e = never e
is-bytes as_bytes e = refl
is-bytes (as_fixed content) e = never e

-- the index of the first
abbrev bytes_at : List Field → ℕ
bytes_at [] = 0
bytes_at (f ∷ fs) = cond (is_bytes (held_as f)) 0 (suc (bytes_at fs))

bytes_there : (fs : List Field) → bytes_at fs < length fs → held_as (get_or fs (bytes_at fs) none) ≡ as_bytes
bytes_there [] h = absurd (not-suc-le-zero h)
bytes_there (f ∷ fs) h = go (is_bytes (held_as f)) refl h (bytes_there fs)
  where
    go : (b : Bool) → is_bytes (held_as f) ≡ b → cond b 0 (suc (bytes_at fs)) < length (f ∷ fs)
        → (bytes_at fs < length fs → held_as (get_or fs (bytes_at fs) none) ≡ as_bytes) → held_as (get_or (f ∷ fs) (cond b 0 (suc (bytes_at fs))) none) ≡ as_bytes
    go true e h later = is-bytes (held_as f) e
    go false e h later = later (le_of_suc-le-suc h)

abbrev has_bytes : Record → Bool
has_bytes r = ltb (bytes_at (fields_of r)) (length (fields_of r))

without : (b : Bool) {n k : ℕ} → T (b || eqb n k) → b ≡ false → n ≡ k
without true t e = never (sym e)
without false {n} {k} t e = eqb→eq n k t

the_trailer : (r : Record) → has_bytes r ≡ false → r ≡ FileTrailer
unfolding fields_of
the_trailer r e = same_code r FileTrailer (without (has_bytes r) (each (λ r. has_bytes r || eqb (code r) (code FileTrailer)) tt r) e)

in_trailer : {A : Type 0} (d : Direction) (v : Fields) → Ruined v → first_broken (rules_of (fields_of FileTrailer) d (record_of FileTrailer v)) ≡ Ok tt → A
unfolding fields_of
in_trailer d v x e = no_number FileTrailer d v x.text ruined_at (lit≤ tt) refl refl x.number (lit≤ tt) e

-- such a record breaks a rule
pub ruined : {A : Type 0} (r : Record) (d : Direction) (v : Fields) → Ruined v
    → all_printable (record_of r v) ≡ true → first_broken (rules_of (fields_of r) d (record_of r v)) ≡ Ok tt → A
ruined {A} r d v x p e = go (has_bytes r) refl
  where
    go : (b : Bool) → has_bytes r ≡ b → A
    go true q = let h = ltb-true (bytes_at (fields_of r)) (length (fields_of r)) q in no_bytes r d v x.text (bytes_at (fields_of r)) h (bytes_there (fields_of r) h) p
    go false q = in_trailer d v x (subst (λ (q : Record). first_broken (rules_of (fields_of q) d (record_of q v)) ≡ Ok tt) (the_trailer r q) e)

-- no record that spoiled fields make is accepted
pub spoiled_refused : {A : Type 0} (r : Record) (d : Direction) → first_broken (record_rules r d (record_of r (spoiled r))) ≡ Ok tt → A
unfolding record_rules AllKept
spoiled_refused r d e =
    let rec = record_of r (spoiled r) in
    ruined r d (spoiled r) (spoiled_ruined r) (accepted_kept _ e).1.0 (back_accepted (first_rules r d rec) (rules_of (fields_of r) d rec) e)
