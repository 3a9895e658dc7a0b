-- The texts of replies, in the parts in which they are written.
use Rattle.std.proofs.Common.{◌≡◌, ℕ, zero, suc, ◌+◌, add-one, List, [], ◌∷◌, ◌++◌, take, map, Bool, true, false, ◌||◌, nat_lt, Option, None, Some, codes, decimal, refl, sym, ◌∙◌, ap, rules}
use Rattle.std.specs.List.{list_all, slice_get}
use Rattle.std.proofs.lemmas.List.{append-nil, append_assoc}
use Rattle.std.proofs.lemmas.Simd.{map-map}
use Rattle.std.proofs.lemmas.Bool.{or_right}
use Rattle.serde_json.specs.Data.{Data, array}
use Rattle.serde_json.specs.View.{items_of}
use Rattle.serde_json.specs.Written.{comma_if, compact_text, items_text}
use Rattle.serde_json.proofs.OnLiterals.{serde_json_on_literals}
use Rattle.versions.specs.Refusals.{name_of, number_of}
use Rattle.versions.specs.declared.refusal.Refusal.{Refusal}
use Rattle.versions.specs.declared.refusal.Refusal.TheVariants.{BadName, BadVersion, BadRequirement, RepeatedDependency, SelfDependency, TooManyDependencies, AlreadyPublished, TooManyVersions, TooManyPackages, JournalFull, NoSuchVersion, AlreadyYanked, NotYanked, Stale, Known, StoreFull, Stray, NoMemory, BadLine, TooLong, NotADerivation, BudgetSpent}
use Rattle.replies.proofs.PlainLemmas.{escape-plain, is_plain, name-plain}
use Rattle.versions.specs.Words.{Text, is_name}
use Rattle.replies.specs.Joined.{closing, found_text, joined, joined_after, verdict}
use Rattle.replies.specs.Locks.{lock_text}
use Rattle.registry.specs.Registry.{Packages, Publication, package_at, versions_or_none}
use Rattle.replies.specs.Entries.{entry_json, publication_json, row_at}
use Rattle.replies.specs.declared.listing.ListingEntry.{ListingEntry}
use Rattle.replies.specs.Listings.{Row, versions_in}
use Rattle.replies.specs.declared.reply.SeatStamp.{SeatStamp}
use Rattle.replies.specs.NamedJson.{derivation_json}
use Rattle.by_name.specs.NamedLines.{NamedLine}
use Rattle.replies.specs.Replies.{accepted, explained, follows, listed, no_selection, pair_json, refused, reply_text, row_json, selected, texts_json, version_json}

pub accepted_text : (stamp : Option SeatStamp) (revision : ℕ) → (codes "{\"ok\":true," ++ []) ++ (found_text stamp revision [] ++ codes "}\n")
    ≡ reply_text (record { revision = revision; stamp = stamp; body = accepted })
unfolding serde_json_on_literals reply_text
accepted_text None revision = simp append_assoc
accepted_text (Some spot) revision = simp append_assoc

name_plain : (e : Refusal) → list_all is_plain (name_of e) ≡ true
name_plain BadName = refl
name_plain BadVersion = refl
name_plain BadRequirement = refl
name_plain RepeatedDependency = refl
name_plain SelfDependency = refl
name_plain TooManyDependencies = refl
name_plain AlreadyPublished = refl
name_plain TooManyVersions = refl
name_plain TooManyPackages = refl
name_plain JournalFull = refl
name_plain NoSuchVersion = refl
name_plain AlreadyYanked = refl
name_plain NotYanked = refl
name_plain Stale = refl
name_plain Known = refl
name_plain StoreFull = refl
name_plain Stray = refl
name_plain NoMemory = refl
name_plain BadLine = refl
name_plain TooLong = refl
name_plain NotADerivation = refl
name_plain BudgetSpent = refl

pub refused_text : (e : Refusal) (stamp : Option SeatStamp) (revision : ℕ)
    → (codes "{\"error\":" ++ (decimal (number_of e) ++ (codes ",\"name\":\"" ++ (name_of e ++ (codes "\"," ++ []))))) ++ (found_text stamp revision [] ++ codes "}\n")
    ≡ reply_text (record { revision = revision; stamp = stamp; body = refused e })
unfolding serde_json_on_literals reply_text
refused_text e None revision = simp (append_assoc, escape-plain (name_of e) (name_plain e))
refused_text e (Some spot) revision = simp (append_assoc, escape-plain (name_of e) (name_plain e))

pub no_selection_text : (stamp : Option SeatStamp) (revision : ℕ) → (codes "{" ++ []) ++ (found_text stamp revision (codes "\"refused\":true,") ++ codes "}\n")
    ≡ reply_text (record { revision = revision; stamp = stamp; body = no_selection })
unfolding serde_json_on_literals reply_text
no_selection_text None revision = simp append_assoc
no_selection_text (Some spot) revision = simp append_assoc

-- what ends the line of a refusal with its reason, whose two texts are these
reason_nowhere : (derivation explanation : List ℕ) (revision : ℕ)
    → (codes "{\"derivation\":" ++ (derivation ++ (codes ",\"explanation\":" ++ (explanation ++ (codes "," ++ []))))) ++ (found_text None revision (codes "\"refused\":true,") ++ codes "}\n")
    ≡ (codes "{\"derivation\":" ++ (derivation ++ (codes ",\"explanation\":" ++ (explanation ++ (codes ",\"refused\":true,\"revision\":" ++ (decimal revision ++ 125 ∷ [])))))) ++ 10 ∷ []
unfolding serde_json_on_literals
reason_nowhere derivation explanation revision = simp append_assoc

reason_at : (derivation explanation : List ℕ) (spot : SeatStamp) (revision : ℕ)
    → (codes "{\"derivation\":" ++ (derivation ++ (codes ",\"explanation\":" ++ (explanation ++ (codes "," ++ []))))) ++ (found_text (Some spot) revision (codes "\"refused\":true,") ++ codes "}\n")
    ≡ (codes "{\"derivation\":" ++ (derivation ++ (codes ",\"explanation\":" ++ (explanation ++ (codes ",\"place\":" ++ (decimal spot.place
    ++ (codes ",\"refused\":true,\"revision\":" ++ (decimal revision ++ (codes ",\"seat\":" ++ (decimal spot.seat ++ 125 ∷ [])))))))))) ++ 10 ∷ []
unfolding serde_json_on_literals
reason_at derivation explanation spot revision = simp append_assoc

-- a refusal with its reason
pub explained_text : (lines : List NamedLine) (texts : List Text) (stamp : Option SeatStamp) (revision : ℕ)
    → (codes "{\"derivation\":" ++ (compact_text (derivation_json lines) ++ (codes ",\"explanation\":" ++ (compact_text (texts_json texts) ++ (codes "," ++ [])))))
    ++ (found_text stamp revision (codes "\"refused\":true,") ++ codes "}\n")
    ≡ reply_text (record { revision = revision; stamp = stamp; body = explained lines texts })
unfolding serde_json_on_literals reply_text
explained_text lines texts None revision = reason_nowhere (compact_text (derivation_json lines)) (compact_text (texts_json texts)) revision
explained_text lines texts (Some spot) revision = reason_at (compact_text (derivation_json lines)) (compact_text (texts_json texts)) spot revision

-- whether a derivation follows
pub follows_text : (yes : Bool) (stamp : Option SeatStamp) (revision : ℕ) → (verdict yes ++ []) ++ (found_text stamp revision [] ++ codes "}\n")
    ≡ reply_text (record { revision = revision; stamp = stamp; body = follows yes })
unfolding serde_json_on_literals reply_text
follows_text true None revision = simp append_assoc
follows_text true (Some spot) revision = simp append_assoc
follows_text false None revision = simp append_assoc
follows_text false (Some spot) revision = simp append_assoc

-- ---- listings

-- a version and its yank
pub version_text : (later yanked : Bool) (version : Text) → list_all is_plain version ≡ true
    → (comma_if later ++ codes "[\"") ++ (version ++ closing yanked) ≡ comma_if later ++ compact_text (version_json (version, yanked))
unfolding serde_json_on_literals
version_text later true version plain = simp (append_assoc, escape-plain version plain)
version_text later false version plain = simp (append_assoc, escape-plain version plain)

-- the text of items, whose closing bracket stands behind what is joined
pub items_text-joined : (later : Bool) (ds : List Data) → items_text later (items_of ds) ≡ joined_after later ds ++ 93 ∷ []
items_text-joined later [] = refl
items_text-joined later (d ∷ ds) =
    ap (λ l. comma_if later ++ (compact_text d ++ l)) (items_text-joined true ds)
    ∙ sym (append_assoc (comma_if later) (compact_text d ++ joined_after true ds) (93 ∷ []) ∙ ap (λ l. comma_if later ++ l) (append_assoc (compact_text d) (joined_after true ds) (93 ∷ [])))

-- an array
pub array_text : (ds : List Data) → 91 ∷ (joined ds ++ 93 ∷ []) ≡ compact_text (array (items_of ds))
array_text ds = ap (λ l. 91 ∷ l) (sym (items_text-joined false ds))

-- a row
pub row_text : (later : Bool) (name : Text) (versions : List (Text × Bool)) → list_all is_plain name ≡ true
    → ((comma_if later ++ codes "[\"") ++ (name ++ codes "\",[")) ++ (joined (map version_json versions) ++ codes "]]") ≡ comma_if later ++ compact_text (row_json (name, versions))
unfolding serde_json_on_literals
row_text later name versions plain = simp (append_assoc, escape-plain name plain, items_text-joined false (map version_json versions))

-- what ends the line of a listing
end_nowhere : (front : List ℕ) (revision : ℕ) → front ++ ((codes "," ++ []) ++ (found_text None revision [] ++ codes "}\n"))
    ≡ (front ++ (codes ",\"revision\":" ++ (decimal revision ++ 125 ∷ []))) ++ 10 ∷ []
unfolding serde_json_on_literals
end_nowhere front revision = simp append_assoc

end_at : (front : List ℕ) (spot : SeatStamp) (revision : ℕ) → front ++ ((codes "," ++ []) ++ (found_text (Some spot) revision [] ++ codes "}\n"))
    ≡ (front ++ (codes ",\"place\":" ++ (decimal spot.place ++ (codes ",\"revision\":" ++ (decimal revision ++ (codes ",\"seat\":" ++ (decimal spot.seat ++ 125 ∷ []))))))) ++ 10 ∷ []
unfolding serde_json_on_literals
end_at front spot revision = simp append_assoc

-- a listing
pub listed_text : (rows : List Row) (stamp : Option SeatStamp) (revision : ℕ)
    → codes "{\"packages\":" ++ (compact_text (array (items_of (map row_json rows))) ++ ((codes "," ++ []) ++ (found_text stamp revision [] ++ codes "}\n")))
    ≡ reply_text (record { revision = revision; stamp = stamp; body = listed rows })
unfolding serde_json_on_literals reply_text
listed_text rows None revision = ap (λ (l : List ℕ). codes "{\"packages\":[" ++ l) (end_nowhere (items_text false (items_of (map row_json rows))) revision)
listed_text rows (Some spot) revision = ap (λ (l : List ℕ). codes "{\"packages\":[" ++ l) (end_at (items_text false (items_of (map row_json rows))) spot revision)

-- ---- selections

-- a package and its version
pub pair_text : (later : Bool) (name version : Text) → list_all is_plain name ≡ true → list_all is_plain version ≡ true
    → (comma_if later ++ codes "[\"") ++ (name ++ (codes "\",\"" ++ (version ++ codes "\"]"))) ≡ comma_if later ++ compact_text (pair_json (name, version))
unfolding serde_json_on_literals
pair_text later name version named versioned = simp (append_assoc, escape-plain name named, escape-plain version versioned)

-- a selection
pub selected_text : (pairs : List (Text × Text)) (stamp : Option SeatStamp) (revision : ℕ)
    → ((codes "{" ++ []) ++ (found_text stamp revision [] ++ codes ",\"selected\":[")) ++ (joined (map pair_json pairs) ++ codes "]}\n")
    ≡ reply_text (record { revision = revision; stamp = stamp; body = selected pairs })
unfolding serde_json_on_literals reply_text
selected_text pairs None revision = simp (append_assoc, items_text-joined false (map pair_json pairs))
selected_text pairs (Some spot) revision = simp (append_assoc, items_text-joined false (map pair_json pairs))

-- ---- values with commas between

regroup : (a b c d : List ℕ) → a ++ (b ++ (c ++ d)) ≡ (a ++ (b ++ c)) ++ d
regroup a b c d = simp append_assoc

-- one value more
pub joined-next : {A : Type 0} (json : A → Data) (later : Bool) (xs : List A) (i : ℕ) (x : A) → slice_get xs i ≡ Some x
    → joined_after later (map json (take (i + 1) xs)) ≡ joined_after later (map json (take i xs)) ++ (comma_if (later || nat_lt 0 i) ++ compact_text (json x))
joined-next json later xs i x here = rw add-one (next json later xs i x here)
  where
    next : {A : Type 0} (json : A → Data) (later : Bool) (xs : List A) (i : ℕ) (x : A) → slice_get xs i ≡ Some x
        → joined_after later (map json (take (suc i) xs)) ≡ joined_after later (map json (take i xs)) ++ (comma_if (later || nat_lt 0 i) ++ compact_text (json x))
    next json later [] i x here = absurd (cc)
    next json true (y ∷ xs) zero x here = let same : y ≡ x = cc in rw (same, append-nil) refl
    next json false (y ∷ xs) zero x here = let same : y ≡ x = cc in rw (same, append-nil) refl
    next json later (y ∷ xs) (suc i) x here =
        let positive : nat_lt 0 (suc i) ≡ true = search rules in
        rw (positive, or_right later true refl)
        (ap (λ l. comma_if later ++ (compact_text (json y) ++ l)) (next json true xs i x here) ∙ regroup (comma_if later) (compact_text (json y)) _ _)

-- the values up to one of them stand at the front
pub joined-front : {A : Type 0} (json : A → Data) (later : Bool) (i : ℕ) (xs : List A)
    → (more : List ℕ) × (joined_after later (map json (take i xs)) ++ more ≡ joined_after later (map json xs))
joined-front json later zero xs = (joined_after later (map json xs), refl)
joined-front json later (suc i) [] = ([], refl)
joined-front json later (suc i) (x ∷ xs) =
    let rest = joined-front json true i xs in
    (rest.0, sym (regroup (comma_if later) (compact_text (json x)) _ rest.0) ∙ ap (λ l. comma_if later ++ (compact_text (json x) ++ l)) rest.1)

-- a row's versions, from the publications
pub versions_json : (publications : List Publication) → map version_json (versions_in publications) ≡ map publication_json publications
versions_json publications = map-map version_json (λ (p : Publication). (p.version, p.yanked)) publications

-- the rows of entries
pub rows_json : (packages : Packages) (entries : List ListingEntry) → map row_json (map (row_at packages) entries) ≡ map (entry_json packages) entries
rows_json packages entries = map-map row_json (row_at packages) entries

-- three texts make this one
pub record Makes (first second third text : List ℕ) : Type 0 where
  pub whole : first ++ (second ++ third) ≡ text

-- the parts in which an entry's row is put
pub row_parts : (packages : Packages) (entry : ListingEntry) (later : Bool) (start name : Text) → start ≡ comma_if later ++ codes "[\"" → name ≡ entry.name.now → is_name entry.name.now ≡ true
    → Makes (start ++ (name ++ codes "\",[")) (joined (map publication_json (versions_or_none (package_at packages entry.number)))) (codes "]]")
    (comma_if later ++ compact_text (entry_json packages entry))
row_parts packages entry later start name starts named valid =
    let publications = versions_or_none (package_at packages entry.number) in
    let versions = ap (λ (ds : List Data). (start ++ (name ++ codes "\",[")) ++ (joined ds ++ codes "]]")) (sym (versions_json publications)) in
    record { whole = versions ∙ rw (starts, named) (row_text later entry.name.now (versions_in publications) (name-plain entry.name.now valid)) }

-- the parts in which packages are put
pub packages_parts : (packages : Packages) (entries : List ListingEntry) (rows : List Row) → map (row_at packages) entries ≡ rows
    → Makes (91 ∷ []) (joined (map (entry_json packages) entries)) (93 ∷ []) (compact_text (array (items_of (map row_json rows))))
packages_parts packages entries rows is = record {
  whole = ap (λ (ds : List Data). (91 ∷ []) ++ (joined ds ++ 93 ∷ [])) (sym (rows_json packages entries) ∙ ap (λ (rs : List Row). map row_json rs) is)
      ∙ array_text (map row_json rows);
}

-- the parts in which the reply with a listing is put
pub listed_parts : (rows : List Row) (stamp : Option SeatStamp) (revision : ℕ)
    → Makes (codes "{\"packages\":") (compact_text (array (items_of (map row_json rows)))) ((codes "," ++ []) ++ (found_text stamp revision [] ++ codes "}\n"))
    (reply_text (record { revision = revision; stamp = stamp; body = listed rows }))
listed_parts rows stamp revision = record { whole = listed_text rows stamp revision }

-- the parts in which an array is put
pub array_parts : (ds : List Data) → Makes (91 ∷ []) (joined ds) (93 ∷ []) (compact_text (array (items_of ds)))
array_parts ds = record { whole = array_text ds }

-- the parts in which a lock list is put
pub lock_parts : (lines : List (Text × Text)) → Makes (91 ∷ []) (joined (map pair_json lines)) (93 ∷ 10 ∷ []) (lock_text lines)
unfolding lock_text
lock_parts lines = record {
  whole = ap (λ (l : List ℕ). 91 ∷ l) (sym (append_assoc (joined (map pair_json lines)) (93 ∷ []) (10 ∷ [])))
      ∙ ap (λ (l : List ℕ). l ++ 10 ∷ []) (array_text (map pair_json lines));
}

-- the parts in which the reply with a selection is put
pub selected_parts : (pairs : List (Text × Text)) (stamp : Option SeatStamp) (revision : ℕ)
    → Makes ((codes "{" ++ []) ++ (found_text stamp revision [] ++ codes ",\"selected\":[")) (joined (map pair_json pairs)) (codes "]}\n")
    (reply_text (record { revision = revision; stamp = stamp; body = selected pairs }))
selected_parts pairs stamp revision = record { whole = selected_text pairs stamp revision }

-- the parts in which a text round what was found is put
pub found_parts : (before after between : List ℕ) (stamp : Option SeatStamp) (revision : ℕ)
    → Makes before (found_text stamp revision between) after (before ++ (found_text stamp revision between ++ after))
found_parts before after between stamp revision = record { whole = refl }

-- what is put of no place and no seat
pub found_nowhere : (stamp : Option SeatStamp) (revision : ℕ) (between text digits : List ℕ) → stamp ≡ None → text ≡ between → digits ≡ decimal revision
    → text ++ (codes "\"revision\":" ++ (digits ++ [])) ≡ found_text stamp revision between
found_nowhere stamp revision between text digits nowhere text_is digits_is = rw (nowhere, text_is, digits_is, append-nil) refl

-- what is put of a place and a seat
pub found_somewhere : (stamp : Option SeatStamp) (spot : SeatStamp) (revision : ℕ) (between place text digits seat : List ℕ) → stamp ≡ Some spot → place ≡ decimal spot.place → text ≡ between
    → digits ≡ decimal revision → seat ≡ decimal spot.seat
    → codes "\"place\":" ++ (place ++ (codes "," ++ (text ++ (codes "\"revision\":" ++ (digits ++ (codes ",\"seat\":" ++ (seat ++ []))))))) ≡ found_text stamp revision between
found_somewhere stamp spot revision between place text digits seat at place_is text_is digits_is seat_is = rw (at, place_is, text_is, digits_is, seat_is, append-nil) refl
