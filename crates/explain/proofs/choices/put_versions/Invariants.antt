use Rattle.std.proofs.Common.{◌≡◌, ◌++◌, map, take}
use Rattle.std.specs.Prelude.{string_bytes}
use Rattle.explain.specs.Choices.{listed, version_text}
use Rattle.explain.proofs.choices.put_versions.Given as goal

abbrev pub invariant-loop-place : goal.invariant-loop-place
invariant-loop-place l = string_bytes l.text ≡ string_bytes l.initial.text ++ listed (map (version_text l.registry.packages l.pkg) (take l.place l.ordinals))
