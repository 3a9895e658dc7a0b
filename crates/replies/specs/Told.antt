-- A refusal as it is told: a derivation that names its packages, and the lines that explain it.
use Rattle.std.specs.Prelude.{List}
use Rattle.versions.specs.Words.{Text}
use Rattle.by_name.specs.NamedLines.{NamedLine}

pub record Told : Type 0 where
  pub lines : List NamedLine
  pub texts : List Text
