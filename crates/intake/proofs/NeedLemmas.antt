-- The needs of a line: their tokens are those of a value, and a reader makes the same needs of it.
use Rattle.std.proofs.Common.{◌≡◌, ◌≤◌, List, [], ◌∷◌, ◌++◌, map, Bool, true, Some, refl, arith}
use Rattle.std.specs.List.{list_all}
use Rattle.std.proofs.lemmas.List.{map-append}
use Rattle.std.proofs.lemmas.List.Folds.{list_all-append}
use Rattle.json.specs.Json as json
use Rattle.json.specs.Json.{Items, no_items, item}
use Rattle.json.specs.Token.{Token, begin_array, end_array, string}
use Rattle.json.specs.Tree as tree
use Rattle.json.specs.Tree.{items_tokens}
use Rattle.serde_json.specs.Data as kept
use Rattle.serde_json.specs.Read.{of_items}
use Rattle.versions.specs.Words.{Text, is_name, is_requirement}
use Rattle.wire.specs.Members.{each_of}
use Rattle.wire.specs.Shapes.{pair_of}
use Rattle.intake.specs.Needs.{AreNeeds, pair_tokens}

-- ---- a need

-- the tokens of a need, and the texts that were read of it
pub need_told : (all second third rest : List Token) (first other name need : Text) → all ≡ string first ∷ second → second ≡ string other ∷ third → third ≡ end_array ∷ rest
    → name ≡ first → need ≡ other → all ≡ string name ∷ string need ∷ end_array ∷ rest
need_told all second third rest first other name need one two three named required = rw (one, two, three, named, required) refl

-- ---- one need more

pub one_more : (ps : List (Text × Text)) (p : Text × Text) (rest : List Token)
    → pair_tokens (ps ++ p ∷ []) rest ≡ pair_tokens ps (begin_array ∷ string p.0 ∷ string p.1 ∷ end_array ∷ rest)
one_more [] p rest = refl
one_more (q ∷ ps) p rest = rw (one_more ps p rest) refl

parts_more : (part : Text × Text → Text) (test : Text → Bool) (ps : List (Text × Text)) (p : Text × Text) → list_all test (map part ps) ≡ true → test (part p) ≡ true
    → list_all test (map part (ps ++ p ∷ [])) ≡ true
parts_more part test ps p before now = rw (map-append, list_all-append, before, now) refl

pub need_more : (ps : List (Text × Text)) (p : Text × Text) → AreNeeds ps → is_name p.0 ≡ true → is_requirement p.1 ≡ true → AreNeeds (ps ++ p ∷ [])
need_more ps p before name requirement = (
  parts_more (λ (d : Text × Text). d.0) is_name ps p before.0 name,
  parts_more (λ (d : Text × Text). d.1) is_requirement ps p before.1 requirement,
)

-- ---- the value

abbrev pub pairs_json : List (Text × Text) → Items
pairs_json [] = no_items
pairs_json (p ∷ ps) = item (json.array (item (json.string p.0) (item (json.string p.1) no_items))) (pairs_json ps)

pub pairs_told : (ps : List (Text × Text)) (rest : List Token) → items_tokens (pairs_json ps) ++ rest ≡ pair_tokens ps (end_array ∷ rest)
pairs_told [] rest = refl
pairs_told (p ∷ ps) rest = rw (pairs_told ps rest) refl

pub pairs_shallow : (ps : List (Text × Text)) → tree.items_depth (pairs_json ps) ≤ 1
pairs_shallow [] = omega arith
pairs_shallow (p ∷ ps) = omega (arith, pairs_shallow ps)

-- what a reader makes of them
abbrev pub pairs_data : List (Text × Text) → kept.Items
pairs_data [] = kept.no_items
pairs_data (p ∷ ps) = kept.item (kept.array (kept.item (kept.string p.0) (kept.item (kept.string p.1) kept.no_items))) (pairs_data ps)

pub pairs_of_json : (ps : List (Text × Text)) → of_items (pairs_json ps) ≡ Some (pairs_data ps)
pairs_of_json [] = refl
pairs_of_json (p ∷ ps) = rw (pairs_of_json ps) refl

pub pairs_back : (needs : List (Text × Text)) → each_of pair_of (pairs_data needs) ≡ Some needs
pairs_back [] = refl
pairs_back (need ∷ needs) = rw (pairs_back needs) refl
