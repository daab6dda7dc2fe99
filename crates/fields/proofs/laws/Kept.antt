-- What a field's bytes are where its rules are kept, and what is refused where they are no number. Assumes nothing.
use Rattle.std.specs.Prelude.{◌≡◌, refl, Bool, true, false, cond, not, ◌||◌, List, [], ◌∷◌, ◌++◌, ℕ, zero, suc, ◌≤◌, ◌<◌, T, eqb, length, get_or, take, drop, None, Ok, Option, Some, is_some}
use Rattle.std.proofs.Common.{sym, ap, subst, ◌∙◌, append_assoc, not-suc-le-zero, le_of_suc-le-suc, arith, leb→le, eqb→eq, length-take}
use borrow.Author.Tests.{eqb-true}
use Rattle.answer.specs.Rules.{Rule, rule, first_broken, AllKept, refused_as}
use Rattle.answer.proofs.laws.Order.{never, accepted_kept, here, gone_on, front_accepted}
use Rattle.digits.specs.Digits.{all_digits}
use Rattle.digits.specs.Numbers.{number, most_digits, number_of}
use Rattle.digits.proofs.laws.Tests.{both}
use Rattle.digits.proofs.laws.Strings.{Digit, Digits, head, rest, leading_all}
use Rattle.digits.proofs.laws.Numerals.{digits_give}
use Rattle.calendar.specs.Calendar.{number_fits, date_fits, time_fits}
use Rattle.layout.specs.Pairs.{Pairs, pairs, among, batch_among, batch_of}
use Rattle.layout.specs.Field.{Kind, N, NOrBlank, Id, T as Text, F, D, Time, K, O, Zeros, Exact, OneOf, Service, Form, Barcode, Code, RecordType, Segment, Field, field, part, none}
use Rattle.layout.specs.Table.{fields_of, record_bytes, service_field, form_field}
use Rattle.layout.specs.Kinds.{Presence, perhaps, Held, a_number, as_number_if_given, as_bytes, as_fixed, means, blank, run, is_fixed, number_or_blank, one_of}
use Rattle.layout.specs.Record.{field_rules, rules_of, first_rules, record_rules}
use Rattle.layout.proofs.laws.Bytes.{and_left, and_right, same_true, no_service, no_form}
use Rattle.layout.proofs.laws.Tiling.{All, at}
use Rattle.layout.proofs.laws.Sound.{fills, stands, proper, Sound, sound_at}
use Rattle.layout.specs.inner.Entries.{width}
use Rattle.layout.specs.declared.Direction.{Direction}
use Rattle.layout.specs.declared.Record.{Record}
use Rattle.layout.specs.declared.Record.TheVariants.{BatchHeader}
use Rattle.layout.specs.Records.{code}
use Rattle.layout.proofs.laws.Records.{each, same_code}
use Rattle.fields.specs.Values.{held_as, is_given}
use Rattle.fields.proofs.laws.Absent.{no_digits_none}
use Rattle.fields.proofs.laws.Wide.{wide, carrier, wide_number, wide_place}

-- ---- bytes that give a number

record IsNumber (m : Option ℕ) : Type 0 where
  value : ℕ
  is : m ≡ Some value

digits_some : (bs : List ℕ) → Digits bs → length bs ≤ most_digits → IsNumber (number_of bs)
digits_some bs ds h = record { value = number bs; is = digits_give bs ds h }

all_some : (bs : List ℕ) → length bs ≤ most_digits → all_digits bs ≡ true → IsNumber (number_of bs)
all_some bs h e = digits_some bs (leading_all bs (eqb-true _ _ e)) h

fits_some : (test : ℕ → Bool) (m : Option ℕ) → number_fits test m ≡ true → IsNumber m
fits_some test (Some n) e = record { value = n; is = refl }
fits_some test None e = never e

among_digit : (b : ℕ) (domain : List ℕ) → Digits domain → among b domain ≡ true → Digit b
among_digit b [] ds e = never e
among_digit b (m ∷ ms) ds e = go (eqb b m) refl (among_digit b ms (rest ds)) e
  where
    go : (t : Bool) → eqb b m ≡ t → (among b ms ≡ true → Digit b) → (t || among b ms) ≡ true → Digit b
    go true q others e = rw (eqb-true b m q) (head ds)
    go false q others e = others e

one_some : (domain bs : List ℕ) → T (all_digits domain) → one_of domain bs ≡ true → IsNumber (number_of bs)
one_some domain bs t e =
    let one : length bs ≡ 1 = eqb-true _ _ (and_left (eqb (length bs) 1) _ e) in
    let d = among_digit (get_or bs 0 0) domain (leading_all domain (eqb→eq _ _ t)) (and_right (eqb (length bs) 1) _ e) in
    digits_some bs (record { each = λ i h. let z : i ≡ 0 = omega arith in rw z d }) (omega arith)

-- each half of a pair
service_some : (ps : List Pairs) (service form : Option ℕ) → is_some (batch_among ps service form) ≡ true → IsNumber service
service_some ps (Some n) form e = record { value = n; is = refl }
service_some ps None form e = never (rw (no_service ps form) at e)

form_some : (ps : List Pairs) (service form : Option ℕ) → is_some (batch_among ps service form) ≡ true → IsNumber form
form_some ps service (Some n) e = record { value = n; is = refl }
form_some ps service None e = never (rw (no_form ps service) at e)

same_places : (g f : Field) (bs : List ℕ) → T (stands g f) → part f bs ≡ part g bs
same_places g f bs t =
    let a = both (eqb f.from g.from) (eqb f.to g.to) t in
    rw (eqb→eq f.from g.from a.0, eqb→eq f.to g.to a.1)

-- ---- bytes of a number that may be not given

data Spelled (bs : List ℕ) : Presence → Type 0 where
  some : {p : Presence} → IsNumber (number_of bs) → Spelled bs p
  blanks : number_of bs ≡ None → run blank (length bs) ≡ bs → Spelled bs perhaps

number_or_blank_spelled : (bs : List ℕ) → length bs ≤ most_digits → number_or_blank bs ≡ true → Spelled bs perhaps
number_or_blank_spelled bs h e = go (all_digits bs) refl e
  where
    go : (t : Bool) → all_digits bs ≡ t → t || is_fixed (run blank) bs ≡ true → Spelled bs perhaps
    go true q e = some (all_some bs h q)
    go false q e = blanks (no_digits_none bs q) (same_true _ _ e)

-- neither a number nor, where it may be not given, blanks
pub record NoNumber (p : Presence) (bs : List ℕ) : Type 0 where
  pub none : number_of bs ≡ None
  pub solid : p ≡ perhaps → run blank (length bs) ≡ bs → ⊥

not_spelled : {p : Presence} {bs : List ℕ} → NoNumber p bs → Spelled bs p → ⊥
not_spelled x (some s) = absurd (let z : ◌≡◌ {A = ℕ} 0 1 = ap (λ (m : Option ℕ). cond (is_given m) 1 0) (sym x.none ∙ s.is) in omega arith)
not_spelled x (blanks n e) = x.solid refl e

-- ---- a kind's rules, by how it is held

-- a number has one rule, refused as `number` at `place`, which only bytes that give a number keep, or blanks where it may be not given; bytes have
-- any; fixed content is compared
data Ruled (bs : List ℕ) (number place : ℕ) : Held → List Rule → Type 0 where
  a-number : {p : Presence} {t : Bool} → (t ≡ true → Spelled bs p) → Ruled bs number place (a_number p) (rule number place t ∷ [])
  any_bytes : {rules : List Rule} → Ruled bs number place as_bytes rules
  content_only : {content : ℕ → List ℕ} {n p : ℕ} → Ruled bs number place (as_fixed content) (rule n p (is_fixed content bs) ∷ [])

ruled : (k : Kind) (f : Field) (d : Direction) (rec : List ℕ) → length (part f rec) ≤ width f → T (fills (means k).held (width f)) → T (proper k f)
    → let g = field f.from f.to k in Ruled (part f rec) (wide_number k) (wide_place g) (means k).held (field_rules (carrier g) d rec)
unfolding date_fits time_fits batch_of
ruled N f d rec l s o = a-number (λ e. some (all_some (part f rec) (omega (arith, leb→le (width f) most_digits s)) e))
ruled NOrBlank f d rec l s o = a-number (number_or_blank_spelled (part f rec) (omega (arith, leb→le (width f) most_digits s)))
ruled Id f d rec l s o = any_bytes
ruled Text f d rec l s o = any_bytes
ruled F f d rec l s o = any_bytes
ruled D f d rec l s o = a-number (λ e. some (fits_some _ _ (and_right (eqb (length (part f rec)) 8) _ e)))
ruled Time f d rec l s o = a-number (λ e. some (fits_some _ _ (and_right (eqb (length (part f rec)) 6) _ e)))
ruled K f d rec l s o = content_only
ruled O f d rec l s o = any_bytes
ruled Zeros f d rec l s o = content_only
ruled (Exact bs) f d rec l s o = content_only
ruled (OneOf domain) f d rec l s o = a-number (λ e. some (one_some domain (part f rec) o e))
ruled Service f d rec l s o = a-number (λ e. some (rw (same_places service_field f rec o) (service_some (pairs d) _ (number_of (part form_field rec)) e)))
ruled Form f d rec l s o = a-number (λ e. some (rw (same_places form_field f rec o) (form_some (pairs d) (number_of (part service_field rec)) _ e)))
ruled Barcode f d rec l s o = any_bytes
ruled Code f d rec l s o = any_bytes
ruled (RecordType b) f d rec l s o = content_only
ruled (Segment b) f d rec l s o = content_only

module _ (f : Field) (d : Direction) (rec : List ℕ) (s : Sound f) where
  rules-of : Ruled (part f rec) (wide_number f.kind) (wide_place f) (held_as f) (field_rules (carrier f) d rec)
  rules-of = ruled f.kind f d rec (rw length-take (omega arith)) s.filled s.own

-- ---- kept, and broken

-- what is known of a field's bytes that keep its rules, by how the field is held
pub data Kept (bs : List ℕ) : Held → Type 0 where
  is_number : {p : Presence} {n : ℕ} → number_of bs ≡ Some n → Kept bs (a_number p)
  is_blank : number_of bs ≡ None → run blank (length bs) ≡ bs → Kept bs as_number_if_given
  is-bytes : Kept bs as_bytes
  is-fixed : {content : ℕ → List ℕ} → content (length bs) ≡ bs → Kept bs (as_fixed content)

spells : {bs : List ℕ} {p : Presence} → Spelled bs p → Kept bs (a_number p)
spells (some s) = is_number s.is
spells (blanks n e) = is_blank n e

module _ {bs : List ℕ} {number place : ℕ} where
  keeps : {h : Held} {rules : List Rule} → Ruled bs number place h rules → first_broken rules ≡ Ok tt → Kept bs h
  unfolding AllKept
  keeps (a-number k) e = spells (k (accepted_kept _ e).0)
  keeps any_bytes e = is-bytes
  keeps content_only e = is-fixed (same_true _ _ (accepted_kept _ e).0)

  breaks : {p : Presence} {h : Held} {rules : List Rule} → Ruled bs number place h rules → h ≡ a_number p → (Spelled bs p → ⊥)
      → first_broken rules ≡ refused_as number place
  breaks {p} (a-number {p = q} {t} k) e none = let same : q ≡ p = cc in go t (λ t. subst (Spelled bs) same (k t))
    where
      go : (t : Bool) → (t ≡ true → Spelled bs p) → first_broken (rule number place t ∷ []) ≡ refused_as number place
      go true k = absurd (none (k refl))
      go false k = sym (here number place false [] refl)
  breaks any_bytes e none = cc
  breaks content_only e none = cc

module _ (f : Field) (d : Direction) (rec : List ℕ) (s : Sound f) where
  pub kept : first_broken (field_rules (carrier f) d rec) ≡ Ok tt → Kept (part f rec) (held_as f)
  kept = keeps (rules-of f d rec s)

  -- no number stands there, and no blanks where it may be not given
  pub no_number : {p : Presence} → held_as f ≡ a_number p → NoNumber p (part f rec)
      → first_broken (field_rules (carrier f) d rec) ≡ refused_as (wide_number f.kind) (wide_place f)
  no_number h none = breaks (rules-of f d rec s) h (not_spelled none)

-- ---- one field's rules among all

pub back_accepted : (xs ys : List Rule) → first_broken (xs ++ ys) ≡ Ok tt → first_broken ys ≡ Ok tt
back_accepted xs ys e = gone_on xs ys (front_accepted xs ys e) ∙ e

pub rules_at : (fs : List Field) (d : Direction) (rec : List ℕ) (j : ℕ) → j < length fs
    → rules_of fs d rec ≡ rules_of (take j fs) d rec ++ (field_rules (get_or fs j none) d rec ++ rules_of (drop (suc j) fs) d rec)
unfolding rules_of
rules_at [] d rec j h = absurd (not-suc-le-zero h)
rules_at (f ∷ fs) d rec zero h = refl
rules_at (f ∷ fs) d rec (suc j) h = rw (rules_at fs d rec j (le_of_suc-le-suc h)) (sym (append_assoc (field_rules f d rec) _ _))

-- each field's rules are kept, if all are
each_accepted : (fs : List Field) (d : Direction) (rec : List ℕ) → first_broken (rules_of fs d rec) ≡ Ok tt → All (λ f. first_broken (field_rules f d rec) ≡ Ok tt) fs
unfolding rules_of All
each_accepted [] d rec e = tt
each_accepted (f ∷ fs) d rec e = (front_accepted (field_rules f d rec) _ e, each_accepted fs d rec (back_accepted (field_rules f d rec) _ e))

-- what holds at each field of a record holds at the field that carries its rule: at the service, where one is paired
abbrev some_paired : List Field → Bool
some_paired [] = false
some_paired (f ∷ fs) = (wide f.kind).paired || some_paired fs

carried_in : (P : Field → Type 0) (fs : List Field) → (some_paired fs ≡ true → P service_field) → All P fs → All (λ f. P (carrier f)) fs
unfolding All
carried_in P [] service a = a
carried_in P (f ∷ fs) service a = go (wide f.kind).paired service (λ s. carried_in P fs s a.1)
  where
    go : (b : Bool) → (b || some_paired fs ≡ true → P service_field) → ((some_paired fs ≡ true → P service_field) → All (λ f. P (carrier f)) fs)
        → P (cond b service_field f) × All (λ f. P (carrier f)) fs
    go true service later = (service refl, later (λ e. service refl))
    go false service later = (a.0, later service)

-- only the batch header has a pair
pair_of : (b : Bool) {n : ℕ} → T (not b || eqb n 1) → b ≡ true → n ≡ 1
pair_of true {n} t e = eqb→eq n 1 t
pair_of false t e = never e

paired_header : (r : Record) → some_paired (fields_of r) ≡ true → r ≡ BatchHeader
unfolding fields_of
paired_header r e = same_code r BatchHeader (pair_of (some_paired (fields_of r)) (each (λ r. not (some_paired (fields_of r)) || eqb (code r) 1) tt r) e)

service_in : (P : Field → Type 0) → All P (fields_of BatchHeader) → P service_field
unfolding All fields_of
service_in P a = a.1.1.1.1.0

carried : (r : Record) (P : Field → Type 0) → All P (fields_of r) → All (λ f. P (carrier f)) (fields_of r)
carried r P a = carried_in P (fields_of r) (λ e. service_in P (subst (λ (q : Record). All P (fields_of q)) (paired_header r e) a)) a

-- each field of a record whose fields are accepted is right
pub kept_field : (r : Record) (d : Direction) (rec : List ℕ) → first_broken (rules_of (fields_of r) d rec) ≡ Ok tt
    → (j : ℕ) → j < length (fields_of r) → let f = get_or (fields_of r) j none in Kept (part f rec) (held_as f)
kept_field r d rec e j h =
    let each = carried r (λ f. first_broken (field_rules f d rec) ≡ Ok tt) (each_accepted (fields_of r) d rec e) in
    kept _ d rec (sound_at r j h) (at (λ f. first_broken (field_rules (carrier f) d rec) ≡ Ok tt) (fields_of r) each j h)

module _ (r : Record) (d : Direction) (rec : List ℕ) (e : first_broken (record_rules r d rec) ≡ Ok tt) where
  pub right_length : length rec ≡ record_bytes
  unfolding record_rules AllKept
  right_length = eqb-true _ _ (accepted_kept _ e).0

  pub right_field : (j : ℕ) → j < length (fields_of r) → let f = get_or (fields_of r) j none in Kept (part f rec) (held_as f)
  unfolding record_rules
  right_field = kept_field r d rec (back_accepted (first_rules r d rec) (rules_of (fields_of r) d rec) e)
