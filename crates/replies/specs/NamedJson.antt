-- Derivations as JSON.
use Rattle.std.specs.Prelude.{ℕ, List, [], ◌∷◌, Option, Some, None, true, false, codes, map}
use Rattle.serde_json.specs.Data.{Data, array, boolean, item, no_items, number, object, string, unsigned}
use Rattle.serde_json.specs.View.{items_of}
use Rattle.versions.specs.Words.{Text}
use Rattle.terms.specs.declared.term.Term.{Term}
use Rattle.terms.specs.declared.term.Term.TheVariants.{In, NotIn}
use Rattle.replies.specs.Objects.{members}
use Rattle.by_name.specs.NamedLines.{NamedCause, NamedLine, NamedPremise}
use Rattle.derivations.specs.declared.facts.Cause.TheVariants as cause

-- a name; the request has the empty one
abbrev pub name_json : Option Text → Data
name_json None = string []
name_json (Some name) = string name

abbrev pub number_json : ℕ → Data
number_json n = number (unsigned n)

-- a set, by its ordinals in their order
abbrev pub ordinals_json : List ℕ → Data
ordinals_json set = array (items_of (map number_json set))

-- a package, whether its choice is in the set, and the set
abbrev pub term_json : Option Text → Term → Data
term_json name (In set) = array (item (name_json name) (item (boolean true) (item (ordinals_json set) no_items)))
term_json name (NotIn set) = array (item (name_json name) (item (boolean false) (item (ordinals_json set) no_items)))

abbrev pub terms_json : List (Option Text × Term) → Data
terms_json terms = array (items_of (map (λ (t : Option Text × Term). term_json t.0 t.1) terms))

abbrev pub premise_json : NamedPremise → Data
premise_json premise = object (members (
    (codes "fact", string (codes "premise"))
    ∷ (codes "name", string premise.package)
    ∷ (codes "need", string premise.need)
    ∷ (codes "target", name_json premise.target)
    ∷ (codes "versions", ordinals_json premise.versions)
    ∷ (codes "within", ordinals_json premise.within)
    ∷ []))

abbrev pub cause_json : NamedCause → Data
cause_json (cause.Line n) = object (members ((codes "line", number_json n) ∷ []))
cause_json (cause.Premise premise) = premise_json premise
cause_json (cause.Need i) = object (members ((codes "fact", string (codes "need")) ∷ (codes "index", number_json i) ∷ []))
cause_json (cause.NotAllowed name versions) = object (members (
    (codes "fact", string (codes "disallowed")) ∷ (codes "name", string name) ∷ (codes "versions", ordinals_json versions) ∷ []))
cause_json cause.Root = object (members ((codes "fact", string (codes "root")) ∷ []))

abbrev pub line_json : NamedLine → Data
line_json line = object (members (
    (codes "causes", array (item (cause_json line.causes.0) (item (cause_json line.causes.1) no_items)))
    ∷ (codes "conclusion", terms_json line.conclusion)
    ∷ (codes "pivot", name_json line.pivot)
    ∷ []))

unfoldable pub derivation_json : List NamedLine → Data
derivation_json lines = array (items_of (map line_json lines))
