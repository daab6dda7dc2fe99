-- What is left of a payload. Assumes nothing.
use Rattle.std.specs.Prelude.{◌<◌, Option, IfSome, length}
use Rattle.probe.specs.declared.payload.Payload.{Payload}

-- if something was read, less of the payload is left
abbrev pub Shortens : {A : Type 0} → Payload → Payload → Option A → Type 0
Shortens before after read = IfSome read (λ _. length after.0.now < length before.0.now)
