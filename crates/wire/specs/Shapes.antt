-- The shapes of request lines: which members each has, in JSON.
use Rattle.std.specs.Prelude.{ℕ, List, [], ◌==◌, ◌&&◌, ◌+◌, Bool, false, if◌then◌else◌, Option, Some, None, option_map, option_and_then, codes}
use Rattle.std.specs.Str.{bytes_eq}
use Rattle.serde_json.specs.Data.{Data, Items}
use Rattle.serde_json.specs.Find.{get_item, as_array, as_bool, as_str}
use Rattle.serde_json.specs.Events.{items_len}
use Rattle.versions.specs.Words.{Text}
use Rattle.registry.specs.Requests.{Wanted}
use Rattle.registry.specs.Step.{Change, Publish, Yank, Unyank}
use Rattle.wire.specs.Members.{each_of, has_member, member, member_count, member_or, whole_of}
use Rattle.wire.specs.NamedShapes.{derivation_in}
use Rattle.by_name.specs.NamedLines.{NamedLine}

-- a request, by its texts
pub data Request : Type 0 where
  command : Change → Request
  -- what is wanted, whether a refusal is to be explained, and how many conflicts may be met, where there is a budget of them
  resolve : Wanted → Bool → Option ℕ → Request
  -- whether the lines show that no selection meets what is wanted
  check : Wanted → List NamedLine → Request
  listing : Request

-- an array of two texts
abbrev pub pair_of_items : Items → Option (Text × Text)
pair_of_items items = if items_len items == 2
    then option_and_then (λ a. option_map (λ b. (a, b)) (option_and_then as_str (get_item 1 items))) (option_and_then as_str (get_item 0 items))
    else None

abbrev pub pair_of : Data → Option (Text × Text)
pair_of d = option_and_then pair_of_items (as_array d)

-- an array of such pairs
abbrev pub pairs_in : Data → Option (List (Text × Text))
pairs_in d = option_and_then (each_of pair_of) (as_array d)

-- A publish line has these four members and no others.
abbrev pub publication_in : Data → Option Request
publication_in d = if member_count d == 4
    then option_and_then (λ name. option_and_then (λ version. option_map (λ needs. command (Publish name version needs))
    (member pairs_in (codes "needs") d)) (member as_str (codes "version") d)) (member as_str (codes "name") d)
    else None

-- A yank line and an unyank line have these three and no others: the name and the version.
abbrev pub marking_in : Data → Option (Text × Text)
marking_in d = if member_count d == 3
    then option_and_then (λ name. option_map (λ version. (name, version)) (member as_str (codes "version") d)) (member as_str (codes "name") d)
    else None

-- the needs and the lock of a line, which has no lines where it is left out
abbrev pub wanted_in : Data → Option Wanted
wanted_in d = option_and_then (λ lock. option_map (λ needs. record { needs = needs; lock = lock }) (member pairs_in (codes "needs") d)) (member_or pairs_in [] (codes "lock") d)

-- a budget
abbrev pub budget_of : Data → Option (Option ℕ)
budget_of d = option_map (λ conflicts. Some conflicts) (whole_of d)

-- A resolve line has its `op` and its needs, may have a lock, a budget and whether to explain, and no others.
abbrev pub resolution_in : Data → Option Request
resolution_in d = if member_count d == 2 + has_member (codes "lock") d + has_member (codes "budget") d + has_member (codes "explain") d
    then option_and_then (λ wanted. option_and_then (λ explain. option_map (λ budget. resolve wanted explain budget)
    (member_or budget_of None (codes "budget") d)) (member_or as_bool false (codes "explain") d)) (wanted_in d)
    else None

-- A check line has its `op`, its needs and its derivation, may have a lock, and no others.
abbrev pub checking_in : Data → Option Request
checking_in d = if member_count d == 3 + has_member (codes "lock") d
    then option_and_then (λ wanted. option_map (λ lines. check wanted lines) (member derivation_in (codes "derivation") d)) (wanted_in d)
    else None

-- A list line has its `op` alone.
abbrev pub shape_by : Text → Data → Option Request
shape_by op d =
    if bytes_eq op (codes "publish") then publication_in d
    else (if bytes_eq op (codes "yank") then option_map (λ p. command (Yank p.0 p.1)) (marking_in d)
    else (if bytes_eq op (codes "unyank") then option_map (λ p. command (Unyank p.0 p.1)) (marking_in d)
    else (if bytes_eq op (codes "resolve") then resolution_in d
    else (if bytes_eq op (codes "check") then checking_in d
    else (if bytes_eq op (codes "list") && member_count d == 1 then Some listing
    else None)))))

-- the request that an object has the shape of
abbrev pub shape_of : Data → Option Request
shape_of d = option_and_then (λ op. shape_by op d) (member as_str (codes "op") d)
