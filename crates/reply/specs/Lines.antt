-- The line that answers: what it says, and its text. Assumes nothing.
use Rattle.std.specs.Prelude.{List, [], ◌∷◌, ◌++◌, ℕ, Err, Ok, codes, decimal, flat_map}
use Rattle.answer.specs.declared.Refusal.{Refusal}
use Rattle.answer.specs.Rules.{Answer}
use Rattle.checker.specs.Totals.{batch_count, record_count, live_payments, live_cents, withdrawn_payments, withdrawn_cents}
use Rattle.checker.specs.declared.totals.Totals.{Totals}
use Rattle.files.specs.File.{Outcome}
use Rattle.reply.specs.declared.Line.{Line}
use Rattle.reply.specs.declared.Line.TheVariants.{Accepted, Counted, Refused}

-- ---- what is said

-- a refusal: its number, line and place
abbrev pub refusal_line : Refusal → Line
refusal_line r = Refused r

-- an acceptance alone, or a refusal's line
abbrev pub answer_line : Answer → Line
answer_line (Ok tt) = Accepted
answer_line (Err r) = refusal_line r

-- an acceptance with what was counted: batches and records, live payments and their cents, withdrawn payments and theirs
abbrev pub totals_line : Totals → Line
totals_line t = Counted t

-- that, or a refusal's line
abbrev pub outcome_line : Outcome → Line
outcome_line (Ok t) = totals_line t
outcome_line (Err r) = refusal_line r

-- ---- its bytes, without LF

-- a word, and numbers, each behind a space and in decimal without leading zeros
abbrev pub said : List ℕ → List ℕ → List ℕ
said word ns = word ++ flat_map (λ n. codes " " ++ decimal n) ns

-- NO number line place
abbrev pub refusal_text : Refusal → List ℕ
refusal_text r = said (codes "NO") (r.number ∷ r.line.0 ∷ r.place ∷ [])

-- OK batches records, live payments and their cents, withdrawn payments and their cents
abbrev pub totals_text : Totals → List ℕ
totals_text t = said (codes "OK") (batch_count t ∷ record_count t ∷ live_payments t ∷ live_cents t ∷ withdrawn_payments t ∷ withdrawn_cents t ∷ [])

abbrev pub line_text : Line → List ℕ
line_text Accepted = said (codes "OK") []
line_text (Counted t) = totals_text t
line_text (Refused r) = refusal_text r
