-- Lines that ask nothing, and arrays of another length.
use Rattle.std.proofs.Common.{◌≡◌, ◌≢◌, ℕ, ◌+◌, List, Bool, true, false, refl, Option, None, Some, Err, length, ◌==◌, if◌then◌else◌, nat_le, ne_eqb, codes, rules}
use Rattle.std.proofs.Common.{◌∙◌, [], ◌∷◌, ◌<◌, ◌≤◌, get_or, option_map, ap, arith, sym}
use Rattle.std.specs.Option.{option_and_then, option_zip}
use Rattle.std.specs.Str.{IsUtf8, is_utf8}
use Rattle.std.proofs.lemmas.Str.{IsUtf8-from_is_utf8, is_utf8-from_IsUtf8}
use Rattle.serde_json.specs.Data.{Data}
use Rattle.serde_json.specs.Find.{as_array, as_bool, as_str, get_item}
use Rattle.serde_json.specs.Read.{read}
use Rattle.serde_json.specs.Events.{items_len}
use Rattle.serde_json.specs.View.{items_view, view}
use Rattle.serde_json.proofs.Views.{get_item_within, items_len-items_view}
use Rattle.serde_json.specs.declared.value.Value.{Value}
use Rattle.versions.specs.declared.refusal.Refusal.TheVariants.{BadLine}
use Rattle.versions.specs.Words.{Text}
use Rattle.wire.specs.Members.{each_of, has_member, member, member_count, member_or}
use Rattle.wire.specs.NamedShapes.{cause_in, causes_of, derivation_in, line_in, name_in, ordinals_in, premise_in, term_in, term_of, term_of_items, whose_in}
use Rattle.by_name.specs.NamedLines.{NamedCause, NamedLine, NamedPremise}
use Rattle.registry.specs.Requests.{Wanted}
use Rattle.registry.specs.Step.{Publish}
use Rattle.terms.specs.declared.term.Term.{Term}
use Rattle.wire.specs.Shapes.{budget_of, check, checking_in, command, listing, pair_of_items, pairs_in, publication_in, resolution_in, resolve, shape_by, shape_of}
use Rattle.lines.specs.Unread.{line_limit}
use Rattle.wire.specs.Requests.{judged_shape, request_of}
use Rattle.wire.specs.Learn.{judged_learn, learn_in, learn_of}
use Rattle.wire.specs.Locks.{judged_lines, lock_of}
use Rattle.wire.specs.declared.request.lock.TheConstants.{LOCK_BYTES}

-- a line that is too long
pub request_of-long : (line : List ℕ) → line_limit < length line → request_of line ≡ Err BadLine
unfolding request_of
request_of-long line long = let over : nat_le (length line) line_limit ≡ false = search rules in rw over refl

bad_by : (line : List ℕ) (fits utf8 : Bool) → nat_le (length line) line_limit ≡ fits → is_utf8 line ≡ utf8 → (IsUtf8 line → read line ≡ None) → request_of line ≡ Err BadLine
unfolding request_of
bad_by line false utf8 long is none = rw long refl
bad_by line true false short is none = rw (short, is) refl
bad_by line true true short is none = rw (short, is, none (IsUtf8-from_is_utf8 line is)) refl

-- a line that is no JSON
pub request_of-bad : (line : List ℕ) → (IsUtf8 line → read line ≡ None) → request_of line ≡ Err BadLine
request_of-bad line none = bad_by line _ _ refl refl none

-- nothing is read of an array of another length
pub other_length : {A : Type 0} (n : ℕ) (vs : List Value) (found : Option A) → length vs ≢ n → None ≡ (if items_len (items_view vs) == n then found else None)
other_length n vs found other = rw items_len-items_view (let no : (length vs == n) ≡ false = ne_eqb (length vs) n other in rw no refl)

-- nothing is read of an object with another number of members
pub other_count : {A : Type 0} (n m : ℕ) (found : Option A) → n ≢ m → None ≡ (if n == m then found else None)
other_count n m found other = let no : (n == m) ≡ false = ne_eqb n m other in rw no refl

-- a line that is JSON
pub request_of-read : (line : List ℕ) (d : Data) → length line ≤ line_limit → IsUtf8 line → read line ≡ Some d → request_of line ≡ judged_shape (shape_of d)
unfolding request_of
request_of-read line d short text is = let fits : nat_le (length line) line_limit ≡ true = search rules in rw (fits, is_utf8-from_IsUtf8 line text, is) refl

-- ---- learn lines

no_learn : (line : List ℕ) (b : Bool) → is_utf8 line ≡ b → (IsUtf8 line → read line ≡ None) → learn_of line ≡ Err BadLine
unfolding learn_of
no_learn line false is none = rw is refl
no_learn line true is none = rw (is, none (IsUtf8-from_is_utf8 line is)) refl

pub learn_of-bad : (line : List ℕ) → (IsUtf8 line → read line ≡ None) → learn_of line ≡ Err BadLine
learn_of-bad line none = no_learn line _ refl none

pub learn_of-read : (line : List ℕ) (d : Data) → IsUtf8 line → read line ≡ Some d → learn_of line ≡ judged_learn (learn_in d)
unfolding learn_of
learn_of-read line d text is = rw (is_utf8-from_IsUtf8 line text, is) refl

-- ---- lock lists

-- a text that is too long
pub lock_of-long : (text : List ℕ) → nat_le (length text) LOCK_BYTES ≡ false → lock_of text ≡ Err BadLine
unfolding lock_of
lock_of-long text long = rw long refl

no_lock : (text : List ℕ) (b : Bool) → nat_le (length text) LOCK_BYTES ≡ true → is_utf8 text ≡ b → (IsUtf8 text → read text ≡ None) → lock_of text ≡ Err BadLine
unfolding lock_of
no_lock text false fits is none = rw (fits, is) refl
no_lock text true fits is none = rw (fits, is, none (IsUtf8-from_is_utf8 text is)) refl

pub lock_of-bad : (text : List ℕ) → nat_le (length text) LOCK_BYTES ≡ true → (IsUtf8 text → read text ≡ None) → lock_of text ≡ Err BadLine
lock_of-bad text fits none = no_lock text _ fits refl none

pub lock_of-read : (text : List ℕ) (d : Data) → nat_le (length text) LOCK_BYTES ≡ true → IsUtf8 text → read text ≡ Some d → lock_of text ≡ judged_lines (pairs_in d)
unfolding lock_of
lock_of-read text d fits utf8 is = rw (fits, is_utf8-from_IsUtf8 text utf8, is) refl

-- ---- resolve and check lines

-- what is wanted, of what was found of a lock and needs
abbrev wanted_by : Option (List (Text × Text)) → Option (List (Text × Text)) → Option Wanted
wanted_by lock needs = option_and_then (λ lines. option_map (λ found. record { needs = found; lock = lines }) needs) lock

-- where the members are counted, what is found of a lock, needs, whether to explain and a budget is asked
pub resolution_of : (d : Data) (lock needs : Option (List (Text × Text))) (explain : Option Bool) (budget : Option (Option ℕ))
    → member_count d ≡ 2 + has_member (codes "lock") d + has_member (codes "budget") d + has_member (codes "explain") d
    → lock ≡ member_or pairs_in [] (codes "lock") d → needs ≡ member pairs_in (codes "needs") d
    → explain ≡ member_or as_bool false (codes "explain") d → budget ≡ member_or budget_of None (codes "budget") d
    → option_and_then (λ wanted. option_and_then (λ told. option_map (λ most. resolve wanted told most) budget) explain) (wanted_by lock needs) ≡ resolution_in d
resolution_of d lock needs explain budget counted locked needed told limited =
    let same : (member_count d == 2 + has_member (codes "lock") d + has_member (codes "budget") d + has_member (codes "explain") d) ≡ true = search rules in
    rw (same, ← locked, ← needed, ← told, ← limited) refl

-- where the members are counted, what is found of a lock, needs and a derivation is to be checked
pub checking_of : (d : Data) (lock needs : Option (List (Text × Text))) (lines : Option (List NamedLine)) → member_count d ≡ 3 + has_member (codes "lock") d
    → lock ≡ member_or pairs_in [] (codes "lock") d → needs ≡ member pairs_in (codes "needs") d → lines ≡ member derivation_in (codes "derivation") d
    → option_and_then (λ wanted. option_map (λ found. check wanted found) lines) (wanted_by lock needs) ≡ checking_in d
checking_of d lock needs lines counted locked needed derived =
    let same : (member_count d == 3 + has_member (codes "lock") d) ≡ true = search rules in
    rw (same, ← locked, ← needed, ← derived) refl

-- ---- what a line is by its `op`

-- a line whose `op` is this word
pub shape_said : (d : Data) (op word : Text) → Some op ≡ member as_str (codes "op") d → op ≡ word → shape_by word d ≡ shape_of d
shape_said d op word is same = ap (λ (o : Option Text). option_and_then (λ (said : Text). shape_by said d) o) (ap Some (sym same) ∙ is)

-- a line without one
pub shape_unsaid : (d : Data) → None ≡ member as_str (codes "op") d → None ≡ shape_of d
shape_unsaid d is = ap (λ (o : Option Text). option_and_then (λ (said : Text). shape_by said d) o) is

-- a list line has its `op` alone
pub listing_of : (d : Data) → member_count d ≡ 1 → Some listing ≡ shape_by (codes "list") d
listing_of d counted = let same : (member_count d == 1) ≡ true = search rules in rw same refl

-- ---- arrays of so many values

-- a value at its place
item_at : (vs : List Value) (i : ℕ) (v : Value) → i < length vs → v ≡ get_or vs i v → get_item i (items_view vs) ≡ Some (view v)
item_at vs i v within here = sym (get_item_within vs i v within) ∙ ap (λ (w : Value). Some (view w)) (sym here)

-- the first of two values is no text
pub unread_pair : (vs : List Value) (v : Value) → length vs ≡ 2 → v ≡ get_or vs 0 v → None ≡ as_str (view v) → None ≡ pair_of_items (items_view vs)
unread_pair vs v len at_v first =
    let same : (length vs == 2) ≡ true = search rules in
    rw (items_len-items_view, same, item_at vs 0 v (omega (arith, len)) at_v, ← first) refl

-- the first of two values is a text, and whether the second is one decides
pub pair_read : (vs : List Value) (v w : Value) (one : Text) (two : Option Text) → length vs ≡ 2 → v ≡ get_or vs 0 v → w ≡ get_or vs 1 w
    → Some one ≡ as_str (view v) → two ≡ as_str (view w) → option_map (λ (other : Text). (one, other)) two ≡ pair_of_items (items_view vs)
pair_read vs v w one two len at_v at_w first second =
    let same : (length vs == 2) ≡ true = search rules in
    rw (items_len-items_view, same, item_at vs 0 v (omega (arith, len)) at_v, item_at vs 1 w (omega (arith, len)) at_w, ← first, ← second) refl

module _ (vs : List Value) (v : Value) (len : length vs ≡ 3) (at_v : v ≡ get_or vs 0 v) where
  -- the first value of a term is no text
  pub unread_term : None ≡ as_str (view v) → None ≡ term_of_items (items_view vs)
  unread_term first =
      let same : (length vs == 3) ≡ true = search rules in
      rw (items_len-items_view, same, item_at vs 0 v (omega (arith, len)) at_v, ← first) refl

  module _ (text : Text) (is_text : Some text ≡ as_str (view v)) where
    -- or it is no name
    pub unnamed_term : None ≡ whose_in text → None ≡ term_of_items (items_view vs)
    unnamed_term named =
        let same : (length vs == 3) ≡ true = search rules in
        rw (items_len-items_view, same, item_at vs 0 v (omega (arith, len)) at_v, ← is_text, ← named) refl

    module _ (name : Option Text) (w : Value) (named : Some name ≡ whose_in text) (at_w : w ≡ get_or vs 1 w) where
      -- the second is no truth value
      pub unmarked_term : None ≡ as_bool (view w) → None ≡ term_of_items (items_view vs)
      unmarked_term second =
          let same : (length vs == 3) ≡ true = search rules in
          rw (items_len-items_view, same, item_at vs 0 v (omega (arith, len)) at_v, ← is_text, ← named, item_at vs 1 w (omega (arith, len)) at_w, ← second) refl

      -- or it is one, and whether the third is a set decides
      pub term_read : (positive : Bool) (u : Value) (set : Option (List ℕ)) → Some positive ≡ as_bool (view w) → u ≡ get_or vs 2 u → set ≡ ordinals_in (view u)
          → option_map (λ (found : List ℕ). (name, term_of positive found)) set ≡ term_of_items (items_view vs)
      term_read positive u set second at_u third =
          let same : (length vs == 3) ≡ true = search rules in
          rw (items_len-items_view, same, item_at vs 0 v (omega (arith, len)) at_v, ← is_text, ← named, item_at vs 1 w (omega (arith, len)) at_w, ← second, item_at vs 2 u (omega (arith, len)) at_u, ← third) refl

-- ---- objects of so many members

-- what is found of a line's causes, its conclusion and its pivot makes it
pub line_of : (d : Data) (causes : Option (NamedCause × NamedCause)) (conclusion : Option (List (Option Text × Term))) (pivot : Option (Option Text)) → member_count d ≡ 3
    → causes ≡ option_and_then causes_of (member as_array (codes "causes") d) → conclusion ≡ option_and_then (each_of term_in) (member as_array (codes "conclusion") d)
    → pivot ≡ option_and_then whose_in (member as_str (codes "pivot") d)
    → ◌≡◌ {A = Option NamedLine} (option_and_then (λ two. option_and_then (λ terms. option_map (λ whose. record { conclusion = terms; causes = two; pivot = whose }) pivot) conclusion) causes) (line_in d)
line_of d causes conclusion pivot counted first second third =
    let same : (member_count d == 3) ≡ true = search rules in
    rw (same, ← first, ← second, ← third) refl

-- what is found of a premise's texts and sets makes it
pub premise_of : (d : Data) (name need : Option Text) (target : Option (Option Text)) (versions within : Option (List ℕ)) → member_count d ≡ 6
    → name ≡ option_and_then name_in (member as_str (codes "name") d) → need ≡ member as_str (codes "need") d → target ≡ option_and_then whose_in (member as_str (codes "target") d)
    → versions ≡ member ordinals_in (codes "versions") d → within ≡ member ordinals_in (codes "within") d
    → ◌≡◌ {A = Option NamedPremise} (option_and_then (λ called. option_and_then (λ text. option_and_then (λ whose. option_and_then (λ set. option_map (λ inside.
    record { «package» = called; versions = set; target = whose; need = text; within = inside }) within) versions) target) need) name) (premise_in d)
premise_of d name need target versions within counted first second third fourth fifth =
    let same : (member_count d == 6) ≡ true = search rules in
    rw (same, ← first, ← second, ← third, ← fourth, ← fifth) refl

-- what is found of a publication's texts and needs makes it
pub publication_of : (d : Data) (name version : Option Text) (needs : Option (List (Text × Text))) → member_count d ≡ 4
    → name ≡ member as_str (codes "name") d → version ≡ member as_str (codes "version") d → needs ≡ member pairs_in (codes "needs") d
    → option_and_then (λ called. option_and_then (λ text. option_map (λ lines. command (Publish called text lines)) needs) version) name ≡ publication_in d
publication_of d name version needs counted first second third =
    let same : (member_count d == 4) ≡ true = search rules in
    rw (same, ← first, ← second, ← third) refl

-- ---- two causes

zipped : {C : Type 0} (said : C → NamedCause) (one two : Option C)
    → option_map {U = NamedCause × NamedCause} (λ (c : C × C). (said c.0, said c.1)) (option_zip one two)
    ≡ option_and_then (λ (a : NamedCause). option_map {U = NamedCause × NamedCause} (λ (b : NamedCause). (a, b)) (option_map said two)) (option_map said one)
zipped said None two = refl
zipped said (Some a) None = refl
zipped said (Some a) (Some b) = refl

-- the causes of an array of two values
pub causes_read : {C : Type 0} (said : C → NamedCause) (vs : List Value) (v w : Value) (one two : Option C) → length vs ≡ 2 → v ≡ get_or vs 0 v → w ≡ get_or vs 1 w
    → option_map said one ≡ cause_in (view v) → option_map said two ≡ cause_in (view w)
    → option_map {U = NamedCause × NamedCause} (λ (c : C × C). (said c.0, said c.1)) (option_zip one two) ≡ causes_of (items_view vs)
causes_read said [] v w one two len at_v at_w first second = absurd (omega (arith, len))
causes_read said (x ∷ []) v w one two len at_v at_w first second = absurd (omega (arith, len))
causes_read said (x ∷ y ∷ []) v w one two len at_v at_w first second =
    zipped said one two
    ∙ ap (λ (o : Option NamedCause). option_and_then (λ (a : NamedCause). option_map {U = NamedCause × NamedCause} (λ (b : NamedCause). (a, b)) (option_map said two)) o) (first ∙ ap (λ (u : Value). cause_in (view u)) at_v)
    ∙ ap (λ (o : Option NamedCause). option_and_then (λ (a : NamedCause). option_map {U = NamedCause × NamedCause} (λ (b : NamedCause). (a, b)) o) (cause_in (view x))) (second ∙ ap (λ (u : Value). cause_in (view u)) at_w)
causes_read said (x ∷ y ∷ z ∷ vs) v w one two len at_v at_w first second = absurd (omega (arith, len))
