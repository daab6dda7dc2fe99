-- The two families of digit strings: a code of 44 digits, as bars show it, and the line that people type. Assumes nothing.
use Rattle.std.specs.Prelude.{List, ℕ}
use Rattle.answer.specs.Rules.{Rule}
use Rattle.boleto.specs.Strings as boleto
use Rattle.boleto.specs.Rules.{barcode_rules, digit_line_rules}
use Rattle.boleto.specs.Collection.{code_digits, code_line_digits, code_of, code_line_of}
use Rattle.boleto.specs.CollectionRules.{code_rules, code_line_rules}

-- how many digits each has, the rules of each, and what each is turned into
pub record Family : Type 0 where
  pub code_digits : ℕ
  pub line_digits : ℕ
  pub code_rules : List ℕ → List Rule
  pub line_rules : List ℕ → List Rule
  pub line_of : List ℕ → List ℕ
  pub code_of : List ℕ → List ℕ

-- the barcode of a boleto, and its line
abbrev pub boletos : Family
boletos = record {
  code_digits = boleto.barcode_digits;
  line_digits = boleto.line_digits;
  code_rules = barcode_rules;
  line_rules = digit_line_rules;
  line_of = boleto.digit_line_of;
  code_of = boleto.barcode_of;
}

-- the collection code of a bill or a tax, and its line
abbrev pub collections : Family
collections = record {
  code_digits = code_digits;
  line_digits = code_line_digits;
  code_rules = code_rules;
  line_rules = code_line_rules;
  line_of = code_line_of;
  code_of = code_of;
}
