-- The needs in the order of their names, by insertion.
use Rattle.std.proofs.Common.{◌≡◌, ◌<◌, ◌+◌, ◌∙◌, ℕ, zero, suc, refl, sym, ap, arith, List, [], ◌∷◌, ◌++◌, drop, get_or, length, map, take, Bool, true, false}
use Rattle.std.proofs.lemmas.List.{length-map}
use Rattle.std.proofs.lemmas.Option.{get_or_from_slice_get, none-some, same_Some, slice_get_read}
use Rattle.std.specs.Prelude.{Some, insert, slice_get}
use Rattle.std.specs.Cmp.Lexicographic.{slice_cmp}
use Rattle.std.specs.List.{AllByRecursion}
use Rattle.std.specs.Ordering.{is_lt, nat_cmp}
use Rattle.versions.specs.Words.{Text}
use Rattle.walk.specs.Listing.{AreInOrder, GoesAt, need_at}
use Rattle.walk.specs.Newest.{in_name_order, insert_by_name}

-- ---- places

pub mapped_at : {A : Type 0} (f : ℕ → A) (xs : List ℕ) (i : ℕ) → i < length xs → slice_get (map f xs) i ≡ Some (f (get_or xs i 0))
mapped_at f [] i lt = absurd (omega arith)
mapped_at f (x ∷ xs) zero lt = refl
mapped_at f (x ∷ xs) (suc i) lt = mapped_at f xs i (omega (arith, lt))

-- the place that was read
pub place_read : (places : List ℕ) (i index : ℕ) → i < length places → index ≡ get_or places i index → index ≡ get_or places i 0
place_read places i index lt is = sym (get_or_from_slice_get places i index 0 (slice_get_read places (length places) i index refl lt is))

-- the need at the i-th place is the i-th in their order
pub in_order_at : (needs : List (Text × Text)) (places : List ℕ) (i : ℕ) (line : Text × Text) → AreInOrder needs places → i < length places → slice_get needs (get_or places i 0) ≡ Some line
    → slice_get (in_name_order needs) i ≡ Some line
in_order_at needs places i line o lt at =
    ap (λ xs. slice_get xs i) (sym o.order) ∙ mapped_at (need_at needs) places i lt ∙ ap Some (get_or_from_slice_get needs (get_or places i 0) line ([], []) at)

pub length_in_order : (needs : List (Text × Text)) (places : List ℕ) → AreInOrder needs places → length (in_name_order needs) ≡ length places
length_in_order needs places o = ap length (sym o.order) ∙ length-map places (need_at needs)

pub within_at : (n : ℕ) (places : List ℕ) (i : ℕ) → AllByRecursion (λ place. place < n) places → i < length places → get_or places i 0 < n
within_at n [] i all lt = absurd (omega arith)
within_at n (p ∷ places) zero all lt = all.0
within_at n (p ∷ places) (suc i) all lt = within_at n places i all.1 (omega (arith, lt))

pub within_insert : (n : ℕ) (places : List ℕ) (at own : ℕ) → own < n → AllByRecursion (λ place. place < n) places → AllByRecursion (λ place. place < n) (insert places at own)
within_insert n places zero own lt all = (lt, all)
within_insert n [] (suc at) own lt all = (lt, tt)
within_insert n (p ∷ places) (suc at) own lt all = (all.0, within_insert n places at own lt all.1)

-- the need that was read
need_read : (needs : List (Text × Text)) (i : ℕ) (line : Text × Text) → i < length needs → line ≡ get_or needs i line → need_at needs i ≡ line
need_read needs i line lt is = get_or_from_slice_get needs i line ([], []) (slice_get_read needs (length needs) i line refl lt is)

-- whether the one is lower than the other, by what was read
pub compared : (needs : List (Text × Text)) (i own : ℕ) (line other : Text × Text) (b : Bool) → i < length needs → own < length needs → line ≡ get_or needs i line → other ≡ get_or needs own other
    → is_lt (slice_cmp nat_cmp (get_or needs i line).0 (get_or needs own other).0) ≡ b → is_lt (slice_cmp nat_cmp (need_at needs i).0 (need_at needs own).0) ≡ b
compared needs i own line other b lt lt_own is is_own e =
    ap (λ (x : Text × Text). is_lt (slice_cmp nat_cmp x.0 (need_at needs own).0)) (need_read needs i line lt is ∙ is)
    ∙ ap (λ (x : Text × Text). is_lt (slice_cmp nat_cmp (get_or needs i line).0 x.0)) (need_read needs own other lt_own is_own ∙ is_own) ∙ e

-- ---- where a need goes

pub goes_first : (need : Text × Text) (lines : List (Text × Text)) → insert_by_name need lines ≡ take 0 lines ++ insert_by_name need (drop 0 lines)
goes_first need [] = refl
goes_first need (l ∷ lines) = refl

-- behind a lower one
goes_later : (need : Text × Text) (lines : List (Text × Text)) (i : ℕ) (line : Text × Text) → slice_get lines i ≡ Some line → is_lt (slice_cmp nat_cmp line.0 need.0) ≡ true
    → take i lines ++ insert_by_name need (drop i lines) ≡ take (suc i) lines ++ insert_by_name need (drop (suc i) lines)
goes_later need [] i line at low = absurd (none-some line at)
goes_later need (l ∷ lines) zero line at low =
    let here : is_lt (slice_cmp nat_cmp l.0 need.0) ≡ true = ap (λ (x : Text × Text). is_lt (slice_cmp nat_cmp x.0 need.0)) (same_Some l line at) ∙ low in
    rw here refl
goes_later need (l ∷ lines) (suc i) line at low = ap (λ xs. l ∷ xs) (goes_later need lines i line at low)

pub goes_on : (need : Text × Text) (lines : List (Text × Text)) (i : ℕ) (line : Text × Text) → slice_get lines i ≡ Some line → is_lt (slice_cmp nat_cmp line.0 need.0) ≡ true
    → take i lines ++ insert_by_name need (drop i lines) ≡ take (i + 1) lines ++ insert_by_name need (drop (i + 1) lines)
goes_on need lines i line at low = let s : suc i ≡ i + 1 = omega arith in goes_later need lines i line at low ∙ ap (λ n. take n lines ++ insert_by_name need (drop n lines)) s

-- before the first that is not lower
pub goes_here : (need : Text × Text) (lines : List (Text × Text)) (i : ℕ) (line : Text × Text) → slice_get lines i ≡ Some line → is_lt (slice_cmp nat_cmp line.0 need.0) ≡ false
    → take i lines ++ insert_by_name need (drop i lines) ≡ insert lines i need
goes_here need [] i line at high = absurd (none-some line at)
goes_here need (l ∷ lines) zero line at high =
    let here : is_lt (slice_cmp nat_cmp l.0 need.0) ≡ false = ap (λ (x : Text × Text). is_lt (slice_cmp nat_cmp x.0 need.0)) (same_Some l line at) ∙ high in
    rw here refl
goes_here need (l ∷ lines) (suc i) line at high = ap (λ xs. l ∷ xs) (goes_here need lines i line at high)

-- or behind all
goes_last : (need : Text × Text) (lines : List (Text × Text)) → take (length lines) lines ++ insert_by_name need (drop (length lines) lines) ≡ insert lines (length lines) need
goes_last need [] = refl
goes_last need (l ∷ lines) = ap (λ xs. l ∷ xs) (goes_last need lines)

pub goes_end : (need : Text × Text) (lines : List (Text × Text)) (i : ℕ) → i ≡ length lines → take i lines ++ insert_by_name need (drop i lines) ≡ insert lines i need
goes_end need lines i all = ap (λ n. take n lines ++ insert_by_name need (drop n lines)) all ∙ goes_last need lines ∙ ap (λ n. insert lines n need) (sym all)

mapped_insert : {A : Type 0} (f : ℕ → A) (places : List ℕ) (at own : ℕ) → map f (insert places at own) ≡ insert (map f places) at (f own)
mapped_insert f places zero own = refl
mapped_insert f [] (suc at) own = refl
mapped_insert f (p ∷ places) (suc at) own = ap (λ xs. f p ∷ xs) (mapped_insert f places at own)

dropped_at : (needs : List (Text × Text)) (own : ℕ) → own < length needs → drop own needs ≡ need_at needs own ∷ drop (suc own) needs
dropped_at [] own lt = absurd (omega arith)
dropped_at (n ∷ needs) zero lt = refl
dropped_at (n ∷ needs) (suc own) lt = dropped_at needs own (omega (arith, lt))

pub none_left : (needs : List (Text × Text)) → drop (length needs) needs ≡ []
none_left [] = refl
none_left (n ∷ needs) = none_left needs

-- one more need, in its place
pub ordered_more : (needs : List (Text × Text)) (places : List ℕ) (own at : ℕ) → own < length needs → map (need_at needs) places ≡ in_name_order (drop (suc own) needs)
    → GoesAt (need_at needs own) (map (need_at needs) places) at → map (need_at needs) (insert places at own) ≡ in_name_order (drop own needs)
ordered_more needs places own at lt before goes =
    mapped_insert (need_at needs) places at own ∙ sym goes ∙ ap (insert_by_name (need_at needs own)) before ∙ ap in_name_order (sym (dropped_at needs own lt))
