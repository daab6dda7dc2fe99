-- A number with more digits than its field, and one that is not given where it always is: its rule is broken, and the record is refused, if nothing
-- before that rule is wrong. Assumes nothing.
use Rattle.std.specs.Prelude.{◌≡◌, refl, ◌++◌, ℕ, suc, ◌^◌, ◌≤◌, ◌<◌, length, get_or, take, drop, None, Ok, Some}
use Rattle.std.proofs.Common.{sym, ◌∙◌, append_assoc, arith, lit≤}
use Rattle.std.proofs.Math.Path.{ap}
use Rattle.answer.specs.Rules.{first_broken, refused_as}
use Rattle.answer.proofs.laws.Order.{gone_on, stopped}
use Rattle.digits.proofs.laws.Numerals.{length_numeral, wide_not_parsed}
use Rattle.layout.specs.Field.{Field, part, none}
use Rattle.layout.specs.Table.{fields_of, record_bytes}
use Rattle.layout.specs.Kinds.{Presence, always, perhaps, a_number, as_number, run, blank}
use Rattle.layout.specs.Record.{field_rules, rules_of, first_rules, record_rules}
use Rattle.layout.proofs.laws.Sound.{sound_at}
use Rattle.layout.specs.inner.Entries.{width}
use Rattle.layout.specs.declared.Direction.{Direction}
use Rattle.layout.specs.declared.Record.{Record}
use Rattle.layout.specs.declared.Record.TheVariants.{BatchHeader}
use Rattle.fields.specs.Values.{held_as, nth, number_bytes, record_of}
use Rattle.fields.proofs.laws.Absent.{blanks_none, no_number_blank}
use Rattle.fields.proofs.laws.Wide.{carrier, wide_number, wide_place}
use Rattle.fields.proofs.laws.Parts.{holds, part_width}
use Rattle.fields.proofs.laws.Kept.{NoNumber, no_number, rules_at}
use Rattle.fields.specs.declared.Fields.{Fields}

always_given : always ≡ perhaps → ⊥
always_given e = absurd (let z : ◌≡◌ {A = ℕ} 0 1 = cc in omega arith)

module _ (r : Record) (d : Direction) (v : Fields) (full : length v.text ≡ record_bytes) (j : ℕ) (h : j < length (fields_of r)) where
  -- the field's bytes: stars, or blanks
  wide_bytes : {p : Presence} {n : ℕ} → let f = get_or (fields_of r) j none in held_as f ≡ a_number p → nth j v ≡ Some n → 10 ^ width f ≤ n → NoNumber p (part f (record_of r v))
  wide_bytes {n = n} a e l =
      let f = get_or (fields_of r) j none in
      let w = part_width r v.text full j h in
      let is : part f (record_of r v) ≡ number_bytes (width f) (Some n) = holds r v full j h ∙ rw (a, e, w.is) in
      record {
        none = rw is (wide_not_parsed (width f) n w.some l);
        solid = λ p q. no_number_blank (width f) n w.some (sym is ∙ sym q ∙ ap (run blank) (ap length is ∙ length_numeral (width f) n));
      }

  blank_bytes : let f = get_or (fields_of r) j none in held_as f ≡ as_number → nth j v ≡ None → NoNumber always (part f (record_of r v))
  blank_bytes a e =
      let f = get_or (fields_of r) j none in
      let w = part_width r v.text full j h in
      record { none = rw (holds r v full j h, a, e, w.is) (blanks_none (width f) w.some); solid = λ p q. always_given p }

  -- the field's rule, at the field that carries it
  pub too_wide : {p : Presence} {n : ℕ} → let f = get_or (fields_of r) j none in held_as f ≡ a_number p → nth j v ≡ Some n → 10 ^ width f ≤ n
      → first_broken (field_rules (carrier f) d (record_of r v)) ≡ refused_as (wide_number f.kind) (wide_place f)
  too_wide a e l = no_number _ d (record_of r v) (sound_at r j h) a (wide_bytes a e l)

  pub not-given : let f = get_or (fields_of r) j none in held_as f ≡ as_number → nth j v ≡ None
      → first_broken (field_rules (carrier f) d (record_of r v)) ≡ refused_as (wide_number f.kind) (wide_place f)
  not-given a e = no_number _ d (record_of r v) (sound_at r j h) a (blank_bytes a e)

  -- the record: field i carries the rule, and the rules before its own are kept
  module _ (i : ℕ) (k : i < length (fields_of r)) (carries : get_or (fields_of r) i none ≡ carrier (get_or (fields_of r) j none))
      (e : first_broken (first_rules r d (record_of r v) ++ rules_of (take i (fields_of r)) d (record_of r v)) ≡ Ok tt) where
    refused_there : let f = get_or (fields_of r) j none in first_broken (field_rules (carrier f) d (record_of r v)) ≡ refused_as (wide_number f.kind) (wide_place f)
        → first_broken (record_rules r d (record_of r v)) ≡ refused_as (wide_number f.kind) (wide_place f)
    unfolding record_rules
    refused_there b =
        let rec = record_of r v in
        let broken = ap (λ (g : Field). first_broken (field_rules g d rec)) carries ∙ b in
        rw (rules_at (fields_of r) d rec i k, ← (append_assoc (first_rules r d rec) (rules_of (take i (fields_of r)) d rec) _))
        (sym (stopped _ (rules_of (drop (suc i) (fields_of r)) d rec) _ broken ∙ gone_on (first_rules r d rec ++ rules_of (take i (fields_of r)) d rec) _ e))

    pub too_wide_refused : {p : Presence} {n : ℕ} → let f = get_or (fields_of r) j none in held_as f ≡ a_number p → nth j v ≡ Some n → 10 ^ width f ≤ n
        → first_broken (record_rules r d (record_of r v)) ≡ refused_as (wide_number f.kind) (wide_place f)
    too_wide_refused a q l = refused_there (too_wide a q l)

    pub not_given_refused : let f = get_or (fields_of r) j none in held_as f ≡ as_number → nth j v ≡ None
        → first_broken (record_rules r d (record_of r v)) ≡ refused_as (wide_number f.kind) (wide_place f)
    not_given_refused a q = refused_there (not-given a q)

-- a form breaks the pair's rule, which the service carries: the rules before the service's are kept
pub wide_form : (d : Direction) (v : Fields) {n : ℕ} → length v.text ≡ record_bytes → let rec = record_of BatchHeader v in
    nth 5 v ≡ Some n → 100 ≤ n → first_broken (first_rules BatchHeader d rec ++ rules_of (take 4 (fields_of BatchHeader)) d rec) ≡ Ok tt
    → first_broken (record_rules BatchHeader d rec) ≡ refused_as 14 10
unfolding fields_of
wide_form d v full q l e = too_wide_refused BatchHeader d v full 5 (lit≤ tt) 4 (lit≤ tt) refl e refl q l
