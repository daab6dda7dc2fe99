-- These converters meet demand 2, in both families of digit strings; one that always refuses does not, whatever it is made of. Assumes nothing.
use Rattle.std.specs.Prelude.{◌≡◌, refl, List, ℕ, ◌≤◌, length, Ok}
use Rattle.std.proofs.Common.{sym, ◌∙◌, lit≤}
use Rattle.answer.specs.Rules.{AllKept, first_broken}
use Rattle.answer.specs.Output.{Writes}
use Rattle.answer.proofs.laws.Order.{kept_accepted, accepted_kept, never_refused}
use Rattle.answer.specs.Rules.{Answer}
use Rattle.digits.specs.Digits.{leading, weighed}
use Rattle.digits.specs.Checks.{counts, lift, check_digit}
use Rattle.boleto.specs.Strings.{digit_line_of}
use Rattle.boleto.specs.Rules.{head_rules, barcode_rules}
use Rattle.boleto.specs.Collection.{modulus_of, code_line_of}
use Rattle.boleto.specs.CollectionRules.{code_head_rules, code_rules}
use Rattle.boleto.proofs.laws.Conversions.{barcode_there_and_back, barcode_calls, line_calls}
use Rattle.boleto.proofs.laws.CollectionConversions.{code_there_and_back, code_calls, code_line_calls}
use Rattle.layout.specs.Kinds.{run}
use Rattle.layout.specs.Field.{part}
use Rattle.layout.specs.Table.{barcode_field, code_field}
use Rattle.checker.specs.Line.{record_in}
use Rattle.promises.specs.Strings.{Family, boletos, collections}
use Rattle.promises.specs.Guarded.{line_at}
use Rattle.promises.specs.Demands.{ConverterDemand2}
use Rattle.promises.specs.WrongOnes.{RefusesDigits}
use Rattle.promises.proofs.laws.AcceptedFiles.{return_file}
use Rattle.promises.proofs.laws.CollectionFiles.{collection_file}

-- ---- these meet it

-- two functions have the contracts of a family's conversions
pub record Converts (f : Family) (toLine toCode : List ℕ → List ℕ → Answer × List ℕ) : Type 0 where
  pub there : (code out : List ℕ) → Writes (f.code_rules code) f.line_digits (f.line_of code) out (toLine code out).0 (toLine code out).1
  pub back : (line out : List ℕ) → Writes (f.line_rules line) f.code_digits (f.code_of line) out (toCode line out).0 (toCode line out).1

module _ {toLine toCode : List ℕ → List ℕ → Answer × List ℕ} where
  pub boletos_meet : Converts boletos toLine toCode → ConverterDemand2 boletos toLine toCode
  boletos_meet c = record {
    from_code = λ bar out other k room room'. barcode_calls bar (kept_accepted _ k) room room' (c.there bar out) (c.back _ other);
    from_line = λ line out other k room room'. line_calls line (kept_accepted _ k) room room' (c.back line out) (c.there _ other);
  }

  pub collections_meet : Converts collections toLine toCode → ConverterDemand2 collections toLine toCode
  collections_meet c = record {
    from_code = λ code out other k room room'. code_calls code (kept_accepted _ k) room room' (c.there code out) (c.back _ other);
    from_line = λ line out other k room room'. code_line_calls line (kept_accepted _ k) room room' (c.back line out) (c.there _ other);
  }

-- ---- one that always refuses does not

-- some code is accepted, and so is its line
record Some (f : Family) : Type 0 where
  code : List ℕ
  line : List ℕ
  code_kept : AllKept (f.code_rules code)
  line_kept : AllKept (f.line_rules line)
  room : List ℕ
  for_code : f.code_digits ≤ length room
  for_line : f.line_digits ≤ length room

module _ {f : Family} (toLine toCode : List ℕ → List ℕ → Answer × List ℕ) (d : ConverterDemand2 f toLine toCode) (some : Some f) where
  refuses_codes : RefusesDigits toLine → ⊥
  refuses_codes all =
      let x = d.from_code some.code some.room some.room some.code_kept some.for_line some.for_code in
      never_refused (sym x.0 ∙ (all some.code some.room).1)

  refuses_lines : RefusesDigits toCode → ⊥
  refuses_lines all =
      let x = d.from_line some.line some.room some.room some.line_kept some.for_code some.for_line in
      never_refused (sym x.0 ∙ (all some.line some.room).1)

-- the barcode of a J of the computed return, and the code of the O of the computed water bill
abbrev barcode : List ℕ
barcode = part barcode_field (record_in (line_at 11 return_file))

abbrev code : List ℕ
code = part code_field (record_in (line_at 2 collection_file))

barcode_kept : first_broken (barcode_rules barcode) ≡ Ok tt
unfolding first_broken barcode_rules head_rules leading weighed counts lift check_digit
barcode_kept = refl

code_kept : first_broken (code_rules code) ≡ Ok tt
unfolding first_broken code_rules code_head_rules modulus_of leading weighed counts lift check_digit
code_kept = refl

-- as many bytes as the longest line has
memory : List ℕ
memory = run 0 48

a_boleto : Some boletos
unfolding memory
a_boleto = record {
  code = barcode;
  line = digit_line_of barcode;
  code_kept = accepted_kept _ barcode_kept;
  line_kept = accepted_kept _ (barcode_there_and_back barcode barcode_kept).0;
  room = memory;
  for_code = lit≤ tt;
  for_line = lit≤ tt;
}

a_collection : Some collections
unfolding memory
a_collection = record {
  code = code;
  line = code_line_of code;
  code_kept = accepted_kept _ code_kept;
  line_kept = accepted_kept _ (code_there_and_back code code_kept).0;
  room = memory;
  for_code = lit≤ tt;
  for_line = lit≤ tt;
}

module _ (toLine toCode : List ℕ → List ℕ → Answer × List ℕ) where
  pub boletos_convert : ConverterDemand2 boletos toLine toCode → (RefusesDigits toLine → ⊥) × (RefusesDigits toCode → ⊥)
  boletos_convert d = (refuses_codes toLine toCode d a_boleto, refuses_lines toLine toCode d a_boleto)

  pub collections_convert : ConverterDemand2 collections toLine toCode → (RefusesDigits toLine → ⊥) × (RefusesDigits toCode → ⊥)
  collections_convert d = (refuses_codes toLine toCode d a_collection, refuses_lines toLine toCode d a_collection)
