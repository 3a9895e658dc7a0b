use Rattle.std.proofs.Common.{◌≡◌, take}
use Rattle.registryd.specs.Shown.{shown_text}
use Rattle.registryd.proofs.fault.shown.Given as goal

abbrev pub invariant-loop-byte : goal.invariant-loop-byte
invariant-loop-byte l = l.all.items ≡ shown_text (take l.byte-index l.byte-items)
