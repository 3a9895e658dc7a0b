use Rattle.std.proofs.Common.{map, take}
use Rattle.std.specs.Prelude.{string_bytes}
use Rattle.std.specs.Io.KnownBytes.{Appends}
use Rattle.explain.specs.Explanations.{text_of}
use Rattle.explain.proofs.explaining.write_all.Given as goal

abbrev pub invariant-loop-line : goal.invariant-loop-line
invariant-loop-line g l = Appends (g.W.Write.contents l.initial.writer) (g.W.Write.contents l.writer) (text_of (map (λ t. string_bytes t) (take l.line-index l.lines)))
