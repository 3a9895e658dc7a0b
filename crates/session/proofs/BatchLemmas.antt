-- Requests that wait together, and the replies to them.
use Rattle.std.proofs.Common.{◌≡◌, ℕ, ◌+◌, ◌<◌, ◌≤◌, List, [], ◌∷◌, ◌++◌, length, take, drop, get_or, refl, sym, ap, subst, ◌∙◌, inl, inr, arith, length-append, Option, None, Some, Result, Ok, Err}
use Rattle.std.proofs.KnownBytes.{Appends-nil}
use Rattle.std.proofs.lemmas.List.{append-nil, append_assoc, drop-append-le, drop_more, take-append-drop}
use Rattle.std.proofs.lemmas.List.Concat.{flat_map-append}
use Rattle.std.specs.Prelude.{if◌then◌else◌, is_none, MatchResult, OnOk}
use Rattle.versions.specs.declared.refusal.Refusal.{Refusal}
use Rattle.registry.specs.Registry.{Packages}
use Rattle.derivations.specs.Lines.{Line}
use Rattle.book.specs.Items.{Book, after, book_of, packages_of, refusal, revision_of, stepped}
use Rattle.book.specs.Laws.{ReplayGrows}
use Rattle.book.specs.declared.item.Item.{Item}
use Rattle.book.specs.declared.item.Item.TheVariants as item
use Rattle.lines.specs.Texts.{Puts}
use Rattle.replies.specs.Putting.{IsCut, IsPut, PutsAddUp}
use Rattle.replies.specs.Replies.{Body, Reply, refused, replies_text, reply_text}
use Rattle.wire.specs.Requests.{request_of}
use Rattle.answers.specs.declared.settings.Settings.{Settings}
use Rattle.session.specs.Batches.{AreAsked, AreReplied, IsAskedBy, LearnsOf, MayBeTold, Question, Tells, request_in}
use Rattle.answers.specs.Laws.{RepliesAddUp}
use Rattle.answers.specs.Lawful.{AreLawfulWithin, Learns, LearnsSome, MayAnswer, Ways, asked_within, bounded_if, reply_at}
use Rattle.answers.specs.Outcomes.{TellsFound}
use Rattle.answers.specs.Told.{reply_from}
use Rattle.solver.specs.Outcomes.{MayStop}
use Rattle.session.specs.Session.{session_ways}
use Rattle.session.proofs.TextLemmas.{replies_text-more}

-- ---- what is asked

-- the next one, and those behind it
pub next_of : (asked : List Question) (k : ℕ) (one : Question) → k < length asked → one ≡ get_or asked k one → drop k asked ≡ one ∷ drop (k + 1) asked
next_of asked k one within here = drop_more asked k one within ∙ ap (λ (x : Question). x ∷ drop (k + 1) asked) (sym here)

-- ---- what is learnt publishes nothing

-- the packages and the revision are the same
abbrev pub SameRegistry : Book → Book → Type 0
SameRegistry new old = (new.packages ≡ old.packages) × (new.revision ≡ old.revision)

stepped_keeps : (book : Book) (lines : List Line) (told : Option Refusal) → SameRegistry (if is_none told then after book (item.Learnt lines) else book) book
unfolding after
stepped_keeps book lines None = (refl, refl)
stepped_keeps book lines (Some e) = (refl, refl)

learnt_keeps : ReplayGrows → (items : List Item) (lines : List Line) → SameRegistry (book_of (items ++ item.Learnt lines ∷ [])) (book_of items)
unfolding stepped
learnt_keeps grows items lines = subst (λ (b : Book). SameRegistry b (book_of items)) (sym (grows items (item.Learnt lines))) (stepped_keeps (book_of items) lines (refusal (book_of items) (item.Learnt lines)))

learns_keep : ReplayGrows → (old new : List Item) (offered : List (List Line)) → Learns session_ways old offered new → SameRegistry (book_of new) (book_of old)
learns_keep grows old new [] same = (ap packages_of same, ap revision_of same)
learns_keep grows old new (lines ∷ rest) (mid, inl same, others) =
    let more = learns_keep grows mid new rest others in
    (more.0 ∙ ap packages_of same, more.1 ∙ ap revision_of same)
learns_keep grows old new (lines ∷ rest) (mid, inr (follows, (free, is, said)), others) =
    let more = learns_keep grows mid new rest others in
    let one = learnt_keeps grows old lines in
    (more.0 ∙ ap packages_of is ∙ one.0, more.1 ∙ ap revision_of is ∙ one.1)

pub learning_keeps : ReplayGrows → (old new : List Item) → LearnsSome session_ways old new → SameRegistry (book_of new) (book_of old)
learning_keeps grows old new (offered, learns) = learns_keep grows old new offered learns

-- ---- replies to requests, one after another

module _ {S : Type 0} (w : Ways S) where
  replied_append : (requests others : List Question) (replies more : List Reply) (old mid new : S) → AreReplied w requests old replies mid → AreReplied w others mid more new
      → AreReplied w (requests ++ others) old (replies ++ more) new
  replied_append [] others [] more old mid new first behind = subst (λ (here : S). AreReplied w others here more new) first behind
  replied_append [] others (reply ∷ replies) more old mid new first behind = absurd first
  replied_append (request ∷ requests) others [] more old mid new first behind = absurd first
  replied_append (request ∷ requests) others (reply ∷ replies) more old mid new (here, answers, rest) behind =
      (here, answers, replied_append requests others replies more here mid new rest behind)

  -- lines that ask these requests are answered by the replies to them
  pub replied_lines : (settings : Settings) → RepliesAddUp w → (lines : List (List ℕ)) (requests : List Question) (old new : S) (replies : List Reply) → AreAsked settings lines requests → AreReplied w requests old replies new
      → AreLawfulWithin settings w lines old replies new
  replied_lines settings laws [] [] old new [] are replied = replied
  replied_lines settings laws [] [] old new (reply ∷ replies) are replied = absurd replied
  replied_lines settings laws [] (request ∷ requests) old new replies are replied = absurd are
  replied_lines settings laws (line ∷ lines) [] old new replies are replied = absurd are
  replied_lines settings laws (line ∷ lines) (request ∷ requests) old new [] are replied = absurd replied
  replied_lines settings laws (line ∷ lines) (request ∷ requests) old new (reply ∷ replies) (is, are) (mid, answers, rest) =
      (mid, laws.asked settings line (request_in request) old reply mid is answers, replied_lines settings laws lines requests mid new replies are rest)

-- ---- replies before what is learnt of them

learns_some : (offered : List (List Line)) (old new : List Item) → LearnsOf offered old new → LearnsSome session_ways old new
learns_some [] old new is = ([], is)
learns_some (lines ∷ offered) old new learns = learns

-- nothing need be learnt
pub learns_nothing : (offered : List (List Line)) (here : List Item) → LearnsOf offered here here
learns_nothing [] here = refl
learns_nothing (lines ∷ offered) here = ([], refl)

-- the reply to a request is the same where what was learnt differs
same_reply : (here items : List Item) (body : Body) → revision_of here ≡ revision_of items → reply_at session_ways here body ≡ reply_at session_ways items body
same_reply here items body same = ap (λ (n : ℕ). reply_from (record { revision = n; stamp = None }) body) same

module _ (laws : RepliesAddUp session_ways) (one : Question) (items : List Item) where
  -- what the solver found is told
  pub told_found : (body : Body) → TellsFound (packages_of items) one.0 one.1.explain body → (offered : List (List Line))
      → MayBeTold (one ∷ []) items (reply_at session_ways items body ∷ []) offered
  told_found body tells offered here new packages revision learns = (
    new,
    subst (λ (reply : Reply). MayAnswer session_ways (request_in one) here reply new) (same_reply here items body revision)
        (laws.found one.0 one.1.explain one.1.budget here here body refl (subst (λ (ps : Packages). TellsFound ps one.0 one.1.explain body) (sym packages) tells) new (learns_some offered here new learns)),
    refl,
  )

  -- why a request is left without an answer
  pub told_stopped : (e : Refusal) → MayStop (packages_of items) one.0 one.1.budget e → MayBeTold (one ∷ []) items (reply_at session_ways items (refused e) ∷ []) []
  told_stopped e stops here new packages revision is = (
    here,
    subst (λ (reply : Reply). MayAnswer session_ways (request_in one) here reply here) (same_reply here items (refused e) revision)
        (laws.stopped one.0 one.1.explain one.1.budget here here e refl (subst (λ (ps : Packages). MayStop ps one.0 one.1.budget e) (sym packages) stops)),
    is,
  )

pub told_nothing : (items : List Item) → MayBeTold [] items [] []
told_nothing items here new packages revision is = is

pub told_both : ReplayGrows → (requests others : List Question) (items : List Item) (replies more : List Reply) (offered after : List (List Line)) → MayBeTold requests items replies offered
    → MayBeTold others items more after → MayBeTold (requests ++ others) items (replies ++ more) (offered ++ after)
told_both grows requests others items replies more [] after one two here new packages revision learns =
    replied_append session_ways requests others replies more here here new (one here here packages revision refl) (two here new packages revision learns)
told_both grows requests others items replies more (lines ∷ offered) after one two here new packages revision learns =
    let same = learning_keeps grows here new learns in
    replied_append session_ways requests others replies more here new new (one here new packages revision learns)
    (two new new (same.0 ∙ packages) (same.1 ∙ revision) (learns_nothing after new))

-- with what is learnt then
pub told_learnt : (requests : List Question) (items : List Item) (replies : List Reply) (offered : List (List Line)) (new : List Item) → MayBeTold requests items replies offered → LearnsOf offered items new
    → AreReplied session_ways requests items replies new
told_learnt requests items replies offered new told learns = told items new refl refl learns

-- ---- replies that are put

-- the first of these requests were told replies
abbrev pub HasTold : Option (List ℕ) → Option (List ℕ) → List ℕ → List ℕ → List Question → List Question → List Item → List (List Line) → List (List Line) → Type 0
HasTold a b p q requests left items before after = Tells {A = Unit} {E = Unit} a b p q (Ok tt) requests left items before after

pub on_ok : {A B E : Type 0} (r : Result B E) → A → OnOk r A
on_ok (Ok u) a = a
on_ok (Err e) a = tt

put_nothing : (a : Option (List ℕ)) (p : List ℕ) → IsPut a a p p []
put_nothing a p = ([], Appends-nil a, sym (append-nil p))

-- none yet
pub tells_none : (a : Option (List ℕ)) (p : List ℕ) (requests : List Question) (items : List Item) (offered : List (List Line)) → HasTold a a p p requests requests items offered offered
tells_none a p requests items offered = record {
  first = [];
  others = requests;
  replies = [];
  more = [];
  split = refl;
  rest = refl;
  offered = sym (append-nil offered);
  told = told_nothing items;
  puts = put_nothing a p;
}

one_put : {E : Type 0} (r : Result Unit E) (a b : Option (List ℕ)) (p q text : List ℕ) → Puts a b p q r text → MatchResult r (λ _. IsPut a b p q text) (λ _. IsCut a b p text)
one_put (Ok u) a b p q text puts = puts
one_put (Err e) a b p q text puts = puts

module _ {E : Type 0} (r : Result Unit E) (a b : Option (List ℕ)) (p q : List ℕ) where
  -- one
  pub tells_one : (request : Question) (items : List Item) (before after more : List (List Line)) (reply : Reply) → after ≡ before ++ more → MayBeTold (request ∷ []) items (reply ∷ []) more
      → Puts a b p q r (reply_text reply) → Tells a b p q r (request ∷ []) [] items before after
  tells_one request items before after more reply offered told puts = record {
    first = request ∷ [];
    others = [];
    replies = reply ∷ [];
    more = more;
    split = refl;
    rest = on_ok r refl;
    offered = offered;
    told = told;
    puts = subst (λ (text : List ℕ). MatchResult r (λ _. IsPut a b p q text) (λ _. IsCut a b p text)) (sym (replies_text-more [] reply)) (one_put r a b p q (reply_text reply) puts);
  }

both_put : PutsAddUp → {A E : Type 0} (r : Result A E) (a b c : Option (List ℕ)) (p q s : List ℕ) (replies more : List Reply) → IsPut a b p q (replies_text replies)
    → MatchResult r (λ _. IsPut b c q s (replies_text more)) (λ _. IsCut b c q (replies_text more)) → MatchResult r (λ _. IsPut a c p s (replies_text (replies ++ more))) (λ _. IsCut a c p (replies_text (replies ++ more)))
both_put laws (Ok u) a b c p q s replies more one two =
    subst (IsPut a c p s) (sym (flat_map-append reply_text replies more)) (laws.both a b c p q s (replies_text replies) (replies_text more) one two)
both_put laws (Err e) a b c p q s replies more one two =
    subst (IsCut a c p) (sym (flat_map-append reply_text replies more)) (laws.second_cut a b c p q (replies_text replies) (replies_text more) one two)

-- some, and then others
pub tells_then : PutsAddUp → ReplayGrows → {A E : Type 0} (r : Result A E) (a b c : Option (List ℕ)) (p q s : List ℕ) (requests mid left : List Question) (items : List Item) (before between after : List (List Line))
    → HasTold a b p q requests mid items before between → Tells b c q s r mid left items between after → Tells a c p s r requests left items before after
tells_then laws grows r a b c p q s requests mid left items before between after one two = record {
  first = one.first ++ two.first;
  others = two.others;
  replies = one.replies ++ two.replies;
  more = one.more ++ two.more;
  split = one.split ∙ ap (λ (l : List Question). one.first ++ l) (sym one.rest ∙ two.split) ∙ sym (append_assoc one.first two.first two.others);
  rest = two.rest;
  offered = two.offered ∙ ap (λ (l : List (List Line)). l ++ two.more) one.offered ∙ append_assoc before one.more two.more;
  told = told_both grows one.first two.first items one.replies two.replies one.more two.more one.told two.told;
  puts = both_put laws r a b c p q s one.replies two.replies one.puts two.puts;
}

-- how it went may be told otherwise
pub tells_ok : {A B E F : Type 0} (v : A) (w : B) (a b : Option (List ℕ)) (p q : List ℕ) (requests left left' : List Question) (items : List Item) (before after : List (List Line)) → left' ≡ left
    → Tells {A = A} {E = E} a b p q (Ok v) requests left items before after → Tells {A = B} {E = F} a b p q (Ok w) requests left' items before after
tells_ok v w a b p q requests left left' items before after same t = record {
  first = t.first;
  others = t.others;
  replies = t.replies;
  more = t.more;
  split = t.split;
  rest = same ∙ t.rest;
  offered = t.offered;
  told = t.told;
  puts = t.puts;
}

pub tells_err : {A B E F : Type 0} (e : E) (f : F) (a b : Option (List ℕ)) (p q q' : List ℕ) (requests left left' : List Question) (items : List Item) (before after : List (List Line))
    → Tells {A = A} {E = E} a b p q (Err e) requests left items before after → Tells {A = B} {E = F} a b p q' (Err f) requests left' items before after
tells_err e f a b p q q' requests left left' items before after t = record {
  first = t.first;
  others = t.others;
  replies = t.replies;
  more = t.more;
  split = t.split;
  rest = tt;
  offered = t.offered;
  told = t.told;
  puts = t.puts;
}

behind_rest : {A E : Type 0} (r : Result A E) (left others behind : List Question) → OnOk r (left ≡ others) → OnOk r (left ++ behind ≡ others ++ behind)
behind_rest (Ok v) left others behind is = ap (λ (l : List Question). l ++ behind) is
behind_rest (Err e) left others behind is = tt

-- with others behind them
pub tells_before : {A E : Type 0} (r : Result A E) (a b : Option (List ℕ)) (p q : List ℕ) (requests left behind : List Question) (items : List Item) (before after : List (List Line))
    → Tells a b p q r requests left items before after → Tells a b p q r (requests ++ behind) (left ++ behind) items before after
tells_before r a b p q requests left behind items before after t = record {
  first = t.first;
  others = t.others ++ behind;
  replies = t.replies;
  more = t.more;
  split = ap (λ (l : List Question). l ++ behind) t.split ∙ append_assoc t.first t.others behind;
  rest = behind_rest r left t.others behind t.rest;
  offered = t.offered;
  told = t.told;
  puts = t.puts;
}

-- the next one, of those from a place on
pub tells_next : {A E : Type 0} (r : Result A E) (a b : Option (List ℕ)) (p q : List ℕ) (asked : List Question) (k : ℕ) (one : Question) (items : List Item) (before after : List (List Line))
    → k < length asked → one ≡ get_or asked k one → Tells a b p q r (one ∷ []) [] items before after → Tells a b p q r (drop k asked) (drop (k + 1) asked) items before after
tells_next {A} {E} r a b p q asked k one items before after within here t =
    subst (λ (l : List Question). Tells {A = A} {E = E} a b p q r l (drop (k + 1) asked) items before after) (sym (next_of asked k one within here))
    (tells_before r a b p q (one ∷ []) [] (drop (k + 1) asked) items before after t)

-- the first ones, of all
pub tells_first : {A E : Type 0} (r : Result A E) (a b : Option (List ℕ)) (p q : List ℕ) (requests : List Question) (most count : ℕ) (items : List Item) (before after : List (List Line)) → count ≤ length (take most requests)
    → Tells a b p q r (take most requests) (drop count (take most requests)) items before after → Tells a b p q r requests (drop count requests) items before after
tells_first {A} {E} r a b p q requests most count items before after within t =
    let all : take most requests ++ drop most requests ≡ requests = take-append-drop most requests in
    subst (λ (l : List Question). Tells {A = A} {E = E} a b p q r l (drop count l) items before after) all
    (subst (λ (l : List Question). Tells {A = A} {E = E} a b p q r (take most requests ++ drop most requests) l items before after) (sym (drop-append-le count (take most requests) (drop most requests) within))
    (tells_before r a b p q (take most requests) (drop count (take most requests)) (drop most requests) items before after t))

pub part_length : (part requests : List Question) (most : ℕ) → part ≡ take most requests → length part ≡ length (take most requests)
part_length part requests most is = ap length is

-- no more than there are
pub part_within : (part requests : List Question) (most count : ℕ) → part ≡ take most requests → count ≤ length part → count ≤ length requests
part_within part requests most count is within =
    let same = part_length part requests most is in
    let all = sym (length-append (take most requests) (drop most requests)) ∙ ap length (take-append-drop most requests) in
    omega (arith, within, same, all)

-- some of a part of the requests, from the first on
pub tells_part : {A E : Type 0} (r : Result A E) (a b : Option (List ℕ)) (p q : List ℕ) (part requests : List Question) (most count : ℕ) (items : List Item) (before after : List (List Line))
    → part ≡ take most requests → count ≤ length part → Tells a b p q r part (drop count part) items before after → Tells a b p q r requests (drop count requests) items before after
tells_part {A} {E} r a b p q part requests most count items before after is within t =
    tells_first r a b p q requests most count items before after (subst (λ (n : ℕ). count ≤ n) (part_length part requests most is) within)
    (subst (λ (l : List Question). Tells {A = A} {E = E} a b p q r l (drop count l) items before after) is t)

-- a line at fault is at fault within every budget
pub refuses_within : (budget : Option ℕ) (line : List ℕ) (e : Refusal) → request_of line ≡ Err e → asked_within budget line ≡ Err e
refuses_within None line e is = is
refuses_within (Some budget) line e is = ap (bounded_if budget) is

-- ---- lines that ask what waits

pub asked_more : (settings : Settings) (lines : List (List ℕ)) (requests : List Question) (line : List ℕ) (request : Question) → AreAsked settings lines requests → IsAskedBy settings line request
    → AreAsked settings (lines ++ line ∷ []) (requests ++ request ∷ [])
asked_more settings [] [] line request are is = (is, tt)
asked_more settings [] (other ∷ requests) line request are is = absurd are
asked_more settings (other ∷ lines) [] line request are is = absurd are
asked_more settings (first ∷ lines) (other ∷ requests) line request (here, are) is = (here, asked_more settings lines requests line request are is)

-- the lines that ask the first of the requests, and those that ask the others
pub asked_split : (settings : Settings) (lines : List (List ℕ)) (first others : List Question) → AreAsked settings lines (first ++ others)
    → (front : List (List ℕ)) × (back : List (List ℕ)) × (lines ≡ front ++ back) × AreAsked settings front first × AreAsked settings back others
asked_split settings lines [] others are = ([], lines, refl, tt, are)
asked_split settings [] (request ∷ first) others are = absurd are
asked_split settings (line ∷ lines) (request ∷ first) others (is, are) =
    let rest = asked_split settings lines first others are in
    (line ∷ rest.0, rest.1, ap (λ ls. line ∷ ls) rest.2, (is, rest.3), rest.4)
