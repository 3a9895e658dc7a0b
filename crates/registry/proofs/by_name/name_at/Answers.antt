use Rattle.std.proofs.Common.{◌≡◌, ◌≤◌, ◌<◌, ◌∙◌, ℕ, List, [], ap, arith, get_or, length, sym}
use Rattle.std.proofs.lemmas.List.{get_or-map, get_or_past, length-map}
use Rattle.std.specs.Map.{keys_of}
use Rattle.versions.specs.Words.{Text}
use Rattle.registry.specs.ByName.{name_at}
use Rattle.registry.proofs.by_name.name_at.Goals as goal

module _ {V : Type 0} (lines : List (Text × V)) (place : ℕ) where
  past : length lines ≤ place → [] ≡ name_at (keys_of lines) place
  past after = sym (get_or_past (keys_of lines) place [] (omega (arith, after, length-map lines (λ (l : Text × V). l.0))))

  read : (line : Text × V) → place < length lines → line ≡ get_or lines place line → line.0 ≡ name_at (keys_of lines) place
  read line within is = ap (λ (l : Text × V). l.0) is ∙ sym (get_or-map (λ (l : Text × V). l.0) lines place line [] within)

pub returns-in-None : goal.returns-in-None
returns-in-None g c = past c.args.lines.now c.args.place c.in-None.ensures.lookup.3

pub returns-in-Some : goal.returns-in-Some
returns-in-Some g c = c.text.ensures.text ∙ read c.args.lines.now c.args.place c.in-Some.line.now c.in-Some.ensures.lookup.3.0 c.in-Some.ensures.lookup.1
