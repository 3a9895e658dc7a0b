-- Members of objects and items of arrays, as request lines have them.
use Rattle.std.specs.Prelude.{ℕ, List, [], ◌∷◌, nat_le, if◌then◌else◌, Option, Some, None, is_some, option_map, option_and_then, unwrap_or}
use Rattle.serde_json.specs.Data.{Data, Items, no_items, item}
use Rattle.serde_json.specs.Events.{members_len}
use Rattle.serde_json.specs.Find.{as_number, as_object, as_u64, get}
use Rattle.versions.specs.Words.{Text}

-- how many members an object has
abbrev pub member_count : Data → ℕ
member_count d = unwrap_or (option_map members_len (as_object d)) 0

-- 1 for a member that the object has, and else 0
abbrev pub has_member : Text → Data → ℕ
has_member name d = if is_some (get name d) then 1 else 0

-- what a member is read as
abbrev pub member : {A : Type 0} → (Data → Option A) → Text → Data → Option A
member read name d = option_and_then read (get name d)

-- what a member is read as that may be left out, and what stands for it then
abbrev pub member_or : {A : Type 0} → (Data → Option A) → A → Text → Data → Option A
member_or read otherwise name d = unwrap_or (option_map read (get name d)) (Some otherwise)

-- the largest whole number of a line
abbrev pub most_whole : ℕ
most_whole = 4294967295

-- a whole number up to the largest, written without a fraction and without an exponent
abbrev pub whole_of : Data → Option ℕ
whole_of d = option_and_then (λ n. if nat_le n most_whole then Some n else None) (option_and_then as_u64 (as_number d))

-- what each item is read as, if each can be read
abbrev pub each_of : {A : Type 0} → (Data → Option A) → Items → Option (List A)
each_of read no_items = Some []
each_of read (item d ds) = option_and_then (λ x. option_map (λ xs. x ∷ xs) (each_of read ds)) (read d)
