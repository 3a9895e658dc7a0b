-- How lines grow.
use Rattle.std.specs.Prelude.{List, [], ◌∷◌, ◌++◌}
use Rattle.registry.specs.Registry.{Packages}
use Rattle.registry.specs.Requests.{Wanted}
use Rattle.derivations.specs.CausedIncompatibilities.{StandsBy}
use Rattle.derivations.specs.declared.known.CausedIncompatibility.{CausedIncompatibility}
use Rattle.facts.specs.Lines.{AreLines}

-- a line that stands by those before it may be put behind them
abbrev pub LinesGrow : Type 0
LinesGrow = (packages : Packages) (wanted : Wanted) (known : List CausedIncompatibility) (line : CausedIncompatibility) → AreLines packages wanted known → StandsBy packages wanted known line.conclusion line.reason
    → AreLines packages wanted (known ++ line ∷ [])
