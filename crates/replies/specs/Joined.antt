-- Values as text, one after another, as they are put.
use Rattle.std.specs.Prelude.{◌≡◌, ℕ, ◌+◌, ◌≤◌, List, [], ◌∷◌, ◌++◌, Bool, true, false, codes, decimal, length, IsOk, Option, None, Some, Result}
use Rattle.lines.specs.Texts.{outbox_room}
use Rattle.serde_json.specs.Data.{Data}
use Rattle.serde_json.specs.Written.{comma_if, compact_text}
use Rattle.replies.specs.declared.reply.SeatStamp.{SeatStamp}

-- the texts of values, each after a comma but the first where nothing stands before
abbrev pub joined_after : Bool → List Data → List ℕ
joined_after later [] = []
joined_after later (d ∷ ds) = comma_if later ++ (compact_text d ++ joined_after true ds)

-- the texts of values, with commas between
abbrev pub joined : List Data → List ℕ
joined ds = joined_after false ds

-- what ends the pair of a version and its yank, after the version's text
abbrev pub closing : Bool → List ℕ
closing true = codes "\",true]"
closing false = codes "\",false]"

-- where and at which revision a line was answered, with what stands between the place and the revision
abbrev pub found_text : Option SeatStamp → ℕ → List ℕ → List ℕ
found_text None revision between = between ++ (codes "\"revision\":" ++ decimal revision)
found_text (Some spot) revision between =
    codes "\"place\":" ++ (decimal spot.place ++ (codes "," ++ (between ++ (codes "\"revision\":" ++ (decimal revision ++ (codes ",\"seat\":" ++ decimal spot.seat))))))

-- what begins the reply to a check line, up to where and when it was found
abbrev pub verdict : Bool → List ℕ
verdict true = codes "{\"follows\":true,"
verdict false = codes "{\"follows\":false,"

-- where there is room behind what waited, the put does not fail, and the text waits there
abbrev pub Waits : {E : Type 0} → List ℕ → List ℕ → Result Unit E → List ℕ → Type 0
Waits before after r text = length before + length text ≤ outbox_room → IsOk r × (after ≡ before ++ text)
