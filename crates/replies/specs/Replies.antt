-- Replies and their texts.
use Rattle.std.specs.Prelude.{ℕ, List, [], ◌∷◌, ◌++◌, Bool, true, codes, flat_map, map, Option, None, Some}
use Rattle.serde_json.specs.Data.{Data, object, array, string, boolean, number, unsigned, no_items, item}
use Rattle.serde_json.specs.View.{items_of}
use Rattle.serde_json.specs.Written.{compact_text}
use Rattle.versions.specs.Words.{Text}
use Rattle.versions.specs.Refusals.{name_of, number_of}
use Rattle.replies.specs.Listings.{Row}
use Rattle.replies.specs.NamedJson.{derivation_json}
use Rattle.replies.specs.Objects.{members}
use Rattle.by_name.specs.NamedLines.{NamedLine}
use Rattle.versions.specs.declared.refusal.Refusal.{Refusal}
use Rattle.replies.specs.declared.reply.SeatStamp.{SeatStamp}

-- what is replied
pub data Body : Type 0 where
  accepted : Body
  refused : Refusal → Body
  -- packages, each with the version that was chosen of it
  selected : List (Text × Text) → Body
  -- no selection meets the request
  no_selection : Body
  -- nor does one, by this derivation, which these lines explain
  explained : List NamedLine → List Text → Body
  -- whether a derivation follows
  follows : Bool → Body
  listed : List Row → Body

-- what is replied, and the revision at which it was found; in a race also the place, and the seat
pub record Reply : Type 0 where
  pub revision : ℕ
  pub stamp : Option SeatStamp
  pub body : Body

-- ---- as JSON

-- two texts, as a pair
abbrev pub pair_json : Text × Text → Data
pair_json p = array (item (string p.0) (item (string p.1) no_items))

-- a version and its yank, as a pair
abbrev pub version_json : Text × Bool → Data
version_json v = array (item (string v.0) (item (boolean v.1) no_items))

-- a package's name and its versions, as a pair
abbrev pub row_json : Row → Data
row_json row = array (item (string row.0) (item (array (items_of (map version_json row.1))) no_items))

-- texts, as an array
abbrev pub texts_json : List Text → Data
texts_json texts = array (items_of (map string texts))

-- the members that tell what is replied
abbrev pub body_members : Body → List (Text × Data)
body_members accepted = (codes "ok", boolean true) ∷ []
body_members (refused refusal) = (codes "error", number (unsigned (number_of refusal))) ∷ (codes "name", string (name_of refusal)) ∷ []
body_members (selected pairs) = (codes "selected", array (items_of (map pair_json pairs))) ∷ []
body_members no_selection = (codes "refused", boolean true) ∷ []
body_members (explained lines texts) =
    (codes "derivation", derivation_json lines) ∷ (codes "explanation", texts_json texts) ∷ (codes "refused", boolean true) ∷ []
body_members (follows holds) = (codes "follows", boolean holds) ∷ []
body_members (listed rows) = (codes "packages", array (items_of (map row_json rows))) ∷ []

-- the members that tell where a reply of a race was found
abbrev pub stamp_members : Option SeatStamp → List (Text × Data)
stamp_members None = []
stamp_members (Some spot) = (codes "place", number (unsigned spot.place)) ∷ (codes "seat", number (unsigned spot.seat)) ∷ []

abbrev pub json_of : Reply → Data
json_of reply = object (members ((codes "revision", number (unsigned reply.revision)) ∷ (stamp_members reply.stamp ++ body_members reply.body)))

-- ---- as text

-- one line of compact JSON
unfoldable pub reply_text : Reply → Text
reply_text reply = compact_text (json_of reply) ++ 10 ∷ []

-- a line for each reply
abbrev pub replies_text : List Reply → Text
replies_text replies = flat_map reply_text replies
