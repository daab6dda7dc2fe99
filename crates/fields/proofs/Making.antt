-- Records that are made: room for one, its length, and the rules behind its answer. Assumes nothing.
use Rattle.std.specs.Prelude.{Ok}
use mathlib.Core.Path.{◌≡◌, sym, ◌∙◌}
use mathlib.Core.List.{List, [], ◌∷◌, ◌++◌}
use Prim.Native.Nat.{ℕ, ◌+◌, ◌-◌, ◌≤◌}
use native.Mathlib.Omega.{arith}
use borrow.Author.Tests.{leb-true}
use lib.ListN.{length, drop, length-append, length-drop}
use Rattle.answer.specs.Rules.{first_broken, AllKept}
use Rattle.answer.specs.Output.{Writes, room}
use Rattle.answer.proofs.laws.Order.{accepted_kept, first_append}
use Rattle.answer.specs.Rules.{Answer}
use Rattle.layout.specs.Table.{record_bytes}
use Rattle.layout.specs.Record.{record_rules}
use Rattle.layout.specs.declared.Direction.{Direction}
use Rattle.fields.specs.Values.{record_of, made_of, Puts}
use Rattle.fields.specs.declared.Fields.{Fields}
use Rattle.fields.specs.declared.writing.Made.{Made}

-- where room is not refused, a record has it
pub roomy : (out : List ℕ) → Ok tt ≡ first_broken (room record_bytes out ∷ []) → record_bytes ≤ length out
unfolding AllKept
roomy out q = leb-true _ _ (accepted_kept (room record_bytes out ∷ []) (sym q)).0

-- what is laid over the first bytes of a part that keeps its length has 240 bytes
laid_long : (rec out last : List ℕ) → last ≡ rec ++ drop record_bytes out → length last ≡ length out → record_bytes ≤ length out → length rec ≡ record_bytes
laid_long rec out last e k h =
    let n : length last ≡ length rec + (length out - record_bytes) = rw (e, length-append, length-drop) in
    omega arith

-- a right record is put where there is room
pub put_there : (m : Made) (out last : List ℕ) → m.answer ≡ Ok tt → Ok tt ≡ first_broken (room record_bytes out ∷ [])
    → last ≡ record_of m.fields.which m.fields ++ drop record_bytes out → length last ≡ length out → Puts m out (Ok tt) last
put_there m out last e q l k =
    let long = laid_long (record_of m.fields.which m.fields) out last l k (roomy out q) in
    record { answered = rw e q; memory = rw long l }

-- a record made and put is written
pub writes : (d : Direction) (v : Fields) {out last : List ℕ} {a : Answer} (m : Made) → m ≡ made_of v.which d v → Puts m out a last
    → let rec = record_of v.which v in Writes (record_rules v.which d rec) record_bytes rec out a last
unfolding made_of
writes d v {out} m e p =
    let same = rw e at p in
    record { answered = same.answered ∙ sym (first_append (record_rules v.which d (record_of v.which v)) (room record_bytes out ∷ [])); memory = same.memory }
