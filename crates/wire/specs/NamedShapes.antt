-- The shapes of derivations in request lines: which members their objects have, in JSON.
use Rattle.std.specs.Prelude.{ℕ, suc, List, [], ◌∷◌, ◌++◌, ◌==◌, nat_le, Bool, true, false, if◌then◌else◌, Option, Some, None, option_map, option_and_then, codes, flat_map}
use Rattle.std.specs.Str.{bytes_eq}
use Rattle.serde_json.specs.Data.{Data, Items, no_items, item}
use Rattle.serde_json.specs.Find.{as_array, as_bool, as_str, get, get_item}
use Rattle.serde_json.specs.Events.{items_len}
use Rattle.versions.specs.Words.{Text, is_name}
use Rattle.terms.specs.declared.term.Term.{Term}
use Rattle.terms.specs.declared.term.Term.TheVariants.{In, NotIn}
use Rattle.wire.specs.Members.{each_of, member, member_count, whole_of}
use Rattle.by_name.specs.NamedLines.{NamedCause, NamedLine, NamedPremise}
use Rattle.derivations.specs.declared.facts.Cause.TheVariants as cause

-- ---- names and ordinals

-- a text that is a package name
abbrev pub name_in : Text → Option Text
name_in text = if is_name text then Some text else None

-- a package name, or the empty text, which stands for the request; no other text
abbrev pub whose_in : Text → Option (Option Text)
whose_in [] = Some None
whose_in (b ∷ rest) = option_map (λ name. Some name) (name_in (b ∷ rest))

-- a number that is at least low
abbrev pub at_least : ℕ → ℕ → Option ℕ
at_least low k = if nat_le low k then Some k else None

-- whole numbers, each above the one before, the first at least low
abbrev pub ordinals_from : ℕ → Items → Option (List ℕ)
ordinals_from low no_items = Some []
ordinals_from low (item d ds) = option_and_then (λ k. option_map (λ ks. k ∷ ks) (ordinals_from (suc k) ds)) (option_and_then (at_least low) (whole_of d))

abbrev pub ordinals_in : Data → Option (List ℕ)
ordinals_in d = option_and_then (ordinals_from 0) (as_array d)

-- ---- terms

abbrev pub term_of : Bool → List ℕ → Term
term_of true set = In set
term_of false set = NotIn set

-- an array of a name, whether the choice is in a set, and the set
abbrev pub term_of_items : Items → Option (Option Text × Term)
term_of_items items = if items_len items == 3
    then option_and_then (λ name. option_and_then (λ positive. option_map (λ set. (name, term_of positive set))
    (option_and_then ordinals_in (get_item 2 items))) (option_and_then as_bool (get_item 1 items)))
    (option_and_then whose_in (option_and_then as_str (get_item 0 items)))
    else None

abbrev pub term_in : Data → Option (Option Text × Term)
term_in d = option_and_then term_of_items (as_array d)

-- ---- causes

-- A premise has its `fact` and these five members, and no others.
abbrev pub premise_in : Data → Option NamedPremise
premise_in d = if member_count d == 6
    then option_and_then (λ name. option_and_then (λ need. option_and_then (λ target. option_and_then (λ versions. option_map (λ within. record {
      «package» = name;
      versions = versions;
      target = target;
      need = need;
      within = within;
    }) (member ordinals_in (codes "within") d)) (member ordinals_in (codes "versions") d)) (option_and_then whose_in (member as_str (codes "target") d)))
    (member as_str (codes "need") d)) (option_and_then name_in (member as_str (codes "name") d))
    else None

abbrev pub barred_in : Data → Option NamedCause
barred_in d = if member_count d == 3
    then option_and_then (λ name. option_map (λ versions. cause.NotAllowed name versions) (member ordinals_in (codes "versions") d)) (option_and_then name_in (member as_str (codes "name") d))
    else None

abbrev pub need_in : Data → Option NamedCause
need_in d = if member_count d == 2 then option_map (λ i. cause.Need i) (member whole_of (codes "index") d) else None

abbrev pub root_in : Data → Option NamedCause
root_in d = if member_count d == 1 then Some cause.Root else None

abbrev pub fact_by : Text → Data → Option NamedCause
fact_by fact d =
    if bytes_eq fact (codes "premise") then option_map (λ premise. cause.Premise premise) (premise_in d)
    else (if bytes_eq fact (codes "disallowed") then barred_in d
    else (if bytes_eq fact (codes "need") then need_in d
    else (if bytes_eq fact (codes "root") then root_in d
    else None)))

-- An object without a `line` tells a fact.
abbrev pub cause_from : Option Data → Data → Option NamedCause
cause_from None d = option_and_then (λ fact. fact_by fact d) (member as_str (codes "fact") d)
cause_from (Some line) d = if member_count d == 1 then option_map (λ n. cause.Line n) (whole_of line) else None

abbrev pub cause_in : Data → Option NamedCause
cause_in d = cause_from (get (codes "line") d) d

-- two causes
abbrev pub causes_of : Items → Option (NamedCause × NamedCause)
causes_of items = if items_len items == 2
    then option_and_then (λ one. option_map (λ two. (one, two)) (option_and_then cause_in (get_item 1 items))) (option_and_then cause_in (get_item 0 items))
    else None

-- ---- lines

-- A line has these three members, and no others.
abbrev pub line_in : Data → Option NamedLine
line_in d = if member_count d == 3
    then option_and_then (λ causes. option_and_then (λ conclusion. option_map (λ pivot. record {
      conclusion = conclusion;
      causes = causes;
      pivot = pivot;
    }) (option_and_then whose_in (member as_str (codes "pivot") d))) (option_and_then (each_of term_in) (member as_array (codes "conclusion") d)))
    (option_and_then causes_of (member as_array (codes "causes") d))
    else None

-- a derivation is an array of lines
abbrev pub derivation_in : Data → Option (List NamedLine)
derivation_in d = option_and_then (each_of line_in) (as_array d)

-- ---- the requirements that are still to be judged

-- the requirement of a premise
abbrev pub requirement_of : NamedCause → List Text
requirement_of (cause.Line n) = []
requirement_of (cause.Premise premise) = premise.need ∷ []
requirement_of (cause.Need i) = []
requirement_of (cause.NotAllowed name versions) = []
requirement_of cause.Root = []

abbrev pub requirements_of : NamedCause × NamedCause → List Text
requirements_of causes = requirement_of causes.0 ++ requirement_of causes.1

abbrev pub line_requirements : NamedLine → List Text
line_requirements line = requirement_of line.causes.0 ++ requirement_of line.causes.1

-- the requirements of the premises, in order
abbrev pub premise_requirements : List NamedLine → List Text
premise_requirements lines = flat_map line_requirements lines
