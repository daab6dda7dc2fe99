-- Rules in the paper's order, and the answer: the first that is broken. Assumes nothing.
use Rattle.std.specs.Prelude.{◌≡◌, Bool, true, false, cond, List, [], ◌∷◌, ◌++◌, map, ℕ, Result, Ok, Err, ⊤, is_ok}
use Rattle.answer.specs.declared.LineNo.{LineNo}
use Rattle.answer.specs.declared.Refusal.{Refusal}
use Rattle.std.specs.Result.{result_and}

-- an acceptance, or one refusal
abbrev pub Answer : Type 0
Answer = Result ⊤ Refusal

abbrev pub refusal : ℕ → LineNo → ℕ → Refusal
refusal number line place = record { number = number; line = line; place = place }

-- line 0 is no line: digit strings and one record alone have none
abbrev pub no_line : LineNo
no_line = record { 0 = 0 }

-- a number and a place of the table, on no line
abbrev pub refused_as : ℕ → ℕ → Answer
refused_as number place = Err (refusal number no_line place)

-- what is refused where the rule is broken, and whether it is kept
pub record Rule : Type 0 where
  pub refused : Refusal
  pub kept : Bool

abbrev pub rule : ℕ → ℕ → Bool → Rule
rule number place kept = record { refused = refusal number no_line place; kept = kept }

-- the first broken rule's refusal; none is broken: accepted
unfoldable pub first_broken : List Rule → Answer
first_broken [] = Ok tt
first_broken (r ∷ later) = cond r.kept (first_broken later) (Err r.refused)

-- ---- what an answer means

unfoldable pub AllKept : List Rule → Type 0
AllKept [] = Unit {0}
AllKept (r ∷ rs) = (r.kept ≡ true) × AllKept rs

-- this refusal's rule is broken, and every earlier one is kept
pub record Broken (rules : List Rule) (r : Refusal) : Type 0 where
  pub earlier : List Rule
  pub later : List Rule
  pub are : rules ≡ earlier ++ record { refused = r; kept = false } ∷ later
  pub all_kept : AllKept earlier

-- the answers that rules allow
pub data Allowed (rules : List Rule) : Answer → Type 0 where
  accepted : AllKept rules → Allowed rules (Ok tt)
  refused : {r : Refusal} → Broken rules r → Allowed rules (Err r)

-- ---- answers asked, joined, and put on a line

-- whether an answer is an acceptance
abbrev pub accepts : Answer → Bool
accepts a = is_ok a

-- the answer alone, of what hands a value on where it accepts
abbrev pub answer_alone : {A : Type 0} → Result A Refusal → Answer
answer_alone (Ok x) = Ok tt
answer_alone (Err r) = Err r

-- the later answer counts where the first accepts
abbrev pub and_then : Answer → Answer → Answer
and_then first later = result_and first later

abbrev pub on_line : LineNo → Answer → Answer
on_line line (Ok tt) = Ok tt
on_line line (Err r) = Err (refusal r.number line r.place)

abbrev pub rule_on_line : LineNo → Rule → Rule
rule_on_line line r = record { refused = refusal r.refused.number line r.refused.place; kept = r.kept }

abbrev pub rules_on_line : LineNo → List Rule → List Rule
rules_on_line line rs = map (rule_on_line line) rs
