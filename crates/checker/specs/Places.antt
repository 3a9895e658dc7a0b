-- Where incompatibilities that are shown stand.
use Rattle.std.specs.Prelude.{List, Option, option_map, slice_get}
use Rattle.derivations.specs.Facts.{Terms}
use Rattle.derivations.specs.declared.known.CausedIncompatibility.{CausedIncompatibility}
use Rattle.checker.specs.declared.chain.Place.{Place}
use Rattle.checker.specs.declared.chain.Place.TheVariants.{Conclusion, Line}

-- the terms at a place, if it is one
abbrev pub terms_at : List CausedIncompatibility → List Terms → Place → Option Terms
terms_at known made (Line at) = option_map (λ line. line.conclusion) (slice_get known at)
terms_at known made (Conclusion at) = slice_get made at
