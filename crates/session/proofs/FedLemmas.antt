-- A session that is fed, step by step.
use Rattle.std.proofs.Common.{◌≡◌, ◌≢◌, ◌≤◌, ◌<◌, inl, inr, ℕ, Bool, true, false, suc, replicate, MatchBool, arith, lit<, ne_of_lt, List, [], ◌∷◌, ◌++◌, refl, sym, ap, subst, ◌∙◌, None, Some, Option, drop, length, Result, Ok, Err, MatchResult, if◌then◌else◌}
use lib.Seq.{drop-append-le}
use Rattle.std.proofs.lemmas.Bool.{lt-leb}
use Rattle.std.proofs.lemmas.List.{append_assoc, append-nil, length-replicate}
use Rattle.std.proofs.lemmas.List.Elements.{All-replicate}
use Rattle.std.specs.List.{AllByRecursion}
use Rattle.std.specs.Io.KnownBytes.{Consumes, Keeps, prepend_known}
use Rattle.std.proofs.KnownBytes.{Consumes-kept, Consumes-trans}
use Rattle.versions.specs.declared.refusal.Refusal.{Refusal}
use Rattle.versions.specs.declared.refusal.Refusal.TheVariants.{BadLine, NoMemory}
use Rattle.lines.specs.Laws.{NoWholeLine, ReadingGoesOn, WholeLinesInFront}
use Rattle.lines.specs.Lines.{HasNoFeed, line_feed, whole_lines_of, with_feeds}
use Rattle.lines.specs.Unread.{BeginsWith, StandsFor, Unread, line_limit}
use Rattle.replies.specs.Replies.{Reply, reply_text, replies_text}
use Rattle.book.specs.declared.item.Item.{Item}
use Rattle.wire.specs.Requests.{request_of}
use Rattle.wire.specs.Shapes.{Request, check, command, listing, resolve}
use Rattle.wire.specs.declared.request.Asked.{Asked}
use Rattle.wire.specs.declared.request.Asked.TheVariants as asked_as
use Rattle.answers.specs.Answering.{IsReadWithin}
use Rattle.answers.specs.Lawful.{IsLawfulWithin, IsRefused, MayAnswer, asked_within, bounded_if}
use Rattle.answers.specs.declared.settings.Settings.{Settings}
use Rattle.session.specs.Committing.{FrontOf}
use Rattle.session.specs.Fed.{Answers, FedSession, Feeding, Feeds, IsElseSame, IsFed, IsStopped, LosesOne, Stops, is_read_search, is_search, needs_of}
use Rattle.session.specs.Session.{session_ways}
use Rattle.session.proofs.BatchLemmas.{refuses_within}
use Rattle.session.proofs.RestLemmas.{front_longer}
use Rattle.session.proofs.StepLemmas.{session_line, session_more, session_none}
use Rattle.session.proofs.TextLemmas.{no_feeds-append, replies_text-more, with_feeds-append}

-- ---- some line is too long, and each buffer stands for some text

long_front : (n : ℕ) → (front : List ℕ) × HasNoFeed front × (n < length front)
long_front n = (replicate (suc n) 0, All-replicate (λ b. b ≢ line_feed) (suc n) 0 (ne_of_lt (lit< tt)), omega (arith, length-replicate {A = ℕ} (suc n) 0))

some_at : (n : ℕ) (is_long : Bool) (bytes : List ℕ)
    → (text : List ℕ) × MatchBool is_long ((front : List ℕ) × HasNoFeed front × (n < length front) × (text ≡ front ++ bytes)) (text ≡ bytes)
some_at n true bytes = let f = long_front n in (f.0 ++ bytes, (f.0, f.1, f.2, refl))
some_at n false bytes = (bytes, refl)

pub some_text : (u : Unread) → (text : List ℕ) × StandsFor u text
some_text u = some_at line_limit u.is_long u.bytes

-- ---- on what a reply rests

asked_long : (line : List ℕ) → line_limit < length line → request_of line ≡ Err BadLine
unfolding request_of
asked_long line long = rw (lt-leb (length line) line_limit long) refl

told_same : (r : Result Request Refusal) (fault : Refusal) (old : List Item) (reply : Reply) (new : List Item) → r ≡ Err fault
    → MatchResult r (λ request. MayAnswer session_ways request old reply new) (λ f. IsRefused session_ways f old reply new) → new ≡ old
told_same (Ok request) fault old reply new is told = absurd (cc)
told_same (Err other) fault old reply new is told = told.0

fault_same : (settings : Settings) (line : List ℕ) (fault : Refusal) (old : List Item) (reply : Reply) (new : List Item) → asked_within settings.budget line ≡ Err fault
    → IsLawfulWithin settings session_ways line old reply new → new ≡ old
fault_same settings line fault old reply new is (inl refused) = refused.0
fault_same settings line fault old reply new is (inr told) = told_same (asked_within settings.budget line) fault old reply new is told

-- a line of which nothing was read changed nothing
pub unread_same : (settings : Settings) (fault : Refusal) (old new : List Item)
    → ((line : List ℕ) → IsReadWithin settings (Err fault) line → (reply : Reply) × IsLawfulWithin settings session_ways line old reply new)
    → (line : List ℕ) → IsReadWithin settings (Err fault) line → new ≡ old
unread_same settings NoMemory old new lawful line is =
    let long = long_front line_limit in
    let told = lawful long.0 tt in
    fault_same settings long.0 BadLine old told.0 new (refuses_within settings.budget long.0 BadLine (asked_long long.0 long.2)) told.1
unread_same settings fault old new lawful line is = let told = lawful line is in fault_same settings line _ old told.0 new is told.1

either_same : (b : Bool) (old new : List Item) → new ≡ old → length new ≡ (if b then length old else length new)
either_same true old new same = ap length same
either_same false old new same = refl

-- a budget makes no search of a line, and none of a search
bounded_search : (budget : ℕ) (said : Result Request Refusal) → is_search (bounded_if budget said) ≡ is_search said
bounded_search budget (Ok (resolve wanted explain None)) = refl
bounded_search budget (Ok (resolve wanted explain (Some own))) = refl
bounded_search budget (Ok (command change)) = refl
bounded_search budget (Ok (check wanted lines)) = refl
bounded_search budget (Ok listing) = refl
bounded_search budget (Err fault) = refl

pub search_within : (limit : Option ℕ) (line : List ℕ) → is_search (asked_within limit line) ≡ is_search (request_of line)
search_within None line = refl
search_within (Some budget) line = bounded_search budget (request_of line)

-- on how many items rests the reply to a line that asks this
needs_asked : (limit : Option ℕ) (line : List ℕ) (old new : List Item) (said : Result Request Refusal) → asked_within limit line ≡ said
    → (if is_search said then length old else length new) ≡ needs_of line old new
needs_asked limit line old new said is = ap (λ (v : Bool). if v then length old else length new) (ap is_search (sym is) ∙ search_within limit line)

pub needs_read : (settings : Settings) (read : Result Asked Refusal) (line : List ℕ) (old new : List Item)
    → ((line : List ℕ) → IsReadWithin settings read line → (reply : Reply) × IsLawfulWithin settings session_ways line old reply new)
    → IsReadWithin settings read line → (if is_read_search read then length old else length new) ≡ needs_of line old new
needs_read settings (Ok (asked_as.Command c)) line old new lawful is = needs_asked settings.budget line old new _ is
needs_read settings (Ok (asked_as.Resolve wanted explain budget)) line old new lawful is = needs_asked settings.budget line old new _ is
needs_read settings (Ok (asked_as.Check wanted lines)) line old new lawful is = needs_asked settings.budget line old new _ is
needs_read settings (Ok asked_as.Listing) line old new lawful is = needs_asked settings.budget line old new _ is
needs_read settings (Err fault) line old new lawful is = either_same (is_search (request_of line)) old new (unread_same settings fault old new lawful line is)

-- ---- lines that are answered

answers_none : {settings : Settings} (old : List Item) (needs : ℕ) → Answers settings [] old [] old needs needs
answers_none {settings} old needs = record { session = session_none settings old; rests = inl (refl, refl) }

answers_more : {settings : Settings} → (lines : List (List ℕ)) (replies : List Reply) (old mid new : List Item) (needs_before needs needs' : ℕ) → Answers settings lines old replies mid needs_before needs
    → (line : List ℕ) (reply : Reply) → IsLawfulWithin settings session_ways line mid reply new → needs' ≡ needs_of line mid new → Answers settings (lines ++ line ∷ []) old (replies ++ reply ∷ []) new needs_before needs'
answers_more {settings} lines replies old mid new needs_before needs needs' a line reply lawful is = record {
  session = session_more settings old mid new lines (line ∷ []) replies (reply ∷ []) a.session (session_line settings line mid reply new lawful);
  rests = inr (record {
    before = lines;
    line = line;
    told = replies;
    reply = reply;
    mid = mid;
    lines_are = refl;
    replies_are = refl;
    session = a.session;
    at_last = session_line settings line mid reply new lawful;
    needs_are = is;
  });
}

-- ---- within a feed

-- what was fed before counts as read
read_before : (text : List ℕ) (r : Option (List ℕ)) → Consumes (prepend_known text r) r text
read_before text None = tt
read_before text (Some xs) = refl

-- before the first line
pub feeding_begins : {settings : Settings} (text : List ℕ) (r : Option (List ℕ)) (old : List Item) (held : Unread) (before : List ℕ) (needs : ℕ) → StandsFor held text
    → Feeding settings (prepend_known text r) r old old held before before needs needs
feeding_begins text r old held before needs stands = record {
  input = text;
  lines = [];
  rest = text;
  replies = [];
  read = read_before text r;
  split = refl;
  no_feeds = tt;
  stands = stands;
  answers = answers_none old needs;
  told = sym (append-nil before);
}

-- no line was left, and what is held stands for the same
pub feeding_rests : {settings : Settings} (r0 r : Option (List ℕ)) (old new : List Item) (held held' : Unread) (before after : List ℕ) (needs_before needs : ℕ) → (f : Feeding settings r0 r old new held before after needs_before needs)
    → HasNoFeed f.rest → StandsFor held' f.rest → IsFed settings r0 r old new held' before after needs_before needs
feeding_rests r0 r old new held held' before after needs_before needs f no_feed stands = (
  record {
    input = f.input;
    lines = f.lines;
    rest = f.rest;
    replies = f.replies;
    read = f.read;
    split = f.split;
    no_feeds = f.no_feeds;
    stands = stands;
    answers = f.answers;
    told = f.told;
  },
  no_feed,
)

module _ {settings : Settings} (r0 r r' : Option (List ℕ)) (old new : List Item) (held held' : Unread) (before after : List ℕ) (needs_before needs : ℕ) (f : Feeding settings r0 r old new held before after needs_before needs)
    (goes_on : ReadingGoesOn) (piece : List ℕ) (consumes : Consumes r r' piece) (bytes : held'.bytes ≡ held.bytes ++ piece) (same : held'.is_long ≡ held.is_long) where
  -- more was read
  pub feeding_reads : Feeding settings r0 r' old new held' before after needs_before needs
  feeding_reads = record {
    input = f.input ++ piece;
    lines = f.lines;
    rest = f.rest ++ piece;
    replies = f.replies;
    read = Consumes-trans r0 r r' f.input piece f.read consumes;
    split = ap (λ (l : List ℕ). l ++ piece) f.split ∙ append_assoc (with_feeds f.lines) f.rest piece;
    no_feeds = f.no_feeds;
    stands = goes_on held held' f.rest piece f.stands bytes same;
    answers = f.answers;
    told = f.told;
  }

  -- nothing was
  pub feeding_reads_none : HasNoFeed f.rest → piece ≡ [] → IsFed settings r0 r' old new held' before after needs_before needs
  unfolding feeding_reads
  feeding_reads_none no_feed none = (feeding_reads, subst HasNoFeed (sym (append-nil f.rest) ∙ ap (λ (l : List ℕ). f.rest ++ l) (sym none)) no_feed)

with_feeds-one : (line rest : List ℕ) → line ++ line_feed ∷ rest ≡ with_feeds (line ∷ []) ++ rest
with_feeds-one line rest = sym (ap (λ (l : List ℕ). l ++ rest) (append-nil (line ++ line_feed ∷ [])) ∙ append_assoc line (line_feed ∷ []) rest)

module _ {settings : Settings} (r0 r : Option (List ℕ)) (old mid new : List Item) (held held' : Unread) (before after : List ℕ) (needs_before needs : ℕ) (f : Feeding settings r0 r old mid held before after needs_before needs)
    (line : List ℕ) (at_front : BeginsWith f.rest line held') (reply : Reply) (lawful : IsLawfulWithin settings session_ways line mid reply new) where
  one_more : f.input ≡ with_feeds (f.lines ++ line ∷ []) ++ at_front.rest
  one_more = f.split ∙ ap (λ (l : List ℕ). with_feeds f.lines ++ l) (at_front.whole ∙ with_feeds-one line at_front.rest) ∙ sym (with_feeds-append f.lines (line ∷ []) at_front.rest)

  one_no_feed : AllByRecursion HasNoFeed (f.lines ++ line ∷ [])
  one_no_feed = no_feeds-append f.lines (line ∷ []) f.no_feeds (at_front.no_feed, tt)

  -- a line was replied to
  pub feeding_replies : (after' : List ℕ) (needs' : ℕ) → after' ≡ after ++ reply_text reply → needs' ≡ needs_of line mid new
      → Feeding settings r0 r old new held' before after' needs_before needs'
  feeding_replies after' needs' all is = record {
    input = f.input;
    lines = f.lines ++ line ∷ [];
    rest = at_front.rest;
    replies = f.replies ++ reply ∷ [];
    read = f.read;
    split = one_more;
    no_feeds = one_no_feed;
    stands = at_front.held;
    answers = answers_more f.lines f.replies old mid new needs_before needs needs' f.answers line reply lawful is;
    told = all ∙ ap (λ (l : List ℕ). l ++ reply_text reply) f.told ∙ append_assoc before (replies_text f.replies) (reply_text reply)
        ∙ ap (λ (l : List ℕ). before ++ l) (sym (replies_text-more f.replies reply));
  }

  -- and its reply is lost
  pub feeding_loses : (after' : List ℕ) → after' ≡ after → IsStopped settings r0 r old new before after' needs_before needs
  feeding_loses after' same = record {
    input = f.input;
    lines = f.lines;
    replies = f.replies;
    here = mid;
    read = f.read;
    front = (f.rest, f.split, f.no_feeds);
    answers = f.answers;
    lost = inr (line, reply, (at_front.rest, one_more, one_no_feed), session_line settings line mid reply new lawful);
    told = same ∙ f.told;
  }

-- no line more was answered
pub feeding_stops : {settings : Settings} (r0 r r' : Option (List ℕ)) (old new : List Item) (held : Unread) (before after : List ℕ) (needs_before needs : ℕ) → Feeding settings r0 r old new held before after needs_before needs → Keeps r r'
    → IsStopped settings r0 r' old new before after needs_before needs
feeding_stops r0 r r' old new held before after needs_before needs f keeps = record {
  input = f.input;
  lines = f.lines;
  replies = f.replies;
  here = new;
  read = Consumes-kept r0 r r' f.input f.read keeps;
  front = (f.rest, f.split, f.no_feeds);
  answers = f.answers;
  lost = inl refl;
  told = f.told;
}

-- ---- all that was fed

drop_more : (taken : ℕ) (before after more : List ℕ) → taken ≤ length before → after ≡ before ++ more → drop taken after ≡ drop taken before ++ more
drop_more taken before after more within is = ap (drop taken) is ∙ drop-append-le taken before more within

pub same_lines : WholeLinesInFront → NoWholeLine → (input : List ℕ) (lines : List (List ℕ)) (rest : List ℕ) → input ≡ with_feeds lines ++ rest → AllByRecursion HasNoFeed lines → HasNoFeed rest
    → whole_lines_of input ≡ lines
same_lines whole_in_front no_line input lines rest split no_feeds no_feed = ap whole_lines_of split ∙ whole_in_front lines rest no_feeds
    ∙ ap (λ (ls : List (List ℕ)). lines ++ ls) (no_line rest no_feed) ∙ append-nil lines

pub feeds : WholeLinesInFront → NoWholeLine → (text bytes left before after : List ℕ) (taken : ℕ) (old new : FedSession) → taken ≤ length before → left ≡ []
    → IsFed old.settings (prepend_known text (Some bytes)) (Some left) old.items new.items new.unread before after old.needs new.needs
    → old.waiting ≡ drop taken before → new.waiting ≡ drop taken after → IsElseSame old new → old.is_spent ≡ false → new.is_spent ≡ false → Feeds text bytes old new
feeds whole_in_front no_line text bytes left before after taken old new within none (f, no_feed) waited waits same went_on goes_on = record {
  rest = f.rest;
  replies = f.replies;
  split = all ∙ f.split ∙ ap (λ (ls : List (List ℕ)). with_feeds ls ++ f.rest) (sym lines);
  no_feed = no_feed;
  stands = f.stands;
  answers = subst (λ (ls : List (List ℕ)). Answers old.settings ls old.items f.replies new.items old.needs new.needs) (sym lines) f.answers;
  told = waits ∙ drop_more taken before after (replies_text f.replies) within f.told ∙ ap (λ (l : List ℕ). l ++ replies_text f.replies) (sym waited);
  same = same;
  went_on = went_on;
  goes_on = goes_on;
}
  where
    all : text ++ bytes ≡ f.input
    all = f.read ∙ ap (λ (l : List ℕ). f.input ++ l) none ∙ append-nil f.input

    lines : whole_lines_of (text ++ bytes) ≡ f.lines
    lines = ap whole_lines_of all ∙ same_lines whole_in_front no_line f.input f.lines f.rest f.split f.no_feeds no_feed

lost_longer : (settings : Settings) (input piece : List ℕ) (lines : List (List ℕ)) (here new : List Item) → LosesOne settings input lines here new → LosesOne settings (input ++ piece) lines here new
lost_longer settings input piece lines here new (inl same) = inl same
lost_longer settings input piece lines here new (inr (line, reply, front, lawful)) = inr (line, reply, front_longer input piece (lines ++ line ∷ []) front, lawful)

pub stops : (text bytes left before after : List ℕ) (taken : ℕ) (old new : FedSession) → taken ≤ length before
    → IsStopped old.settings (prepend_known text (Some bytes)) (Some left) old.items new.items before after old.needs new.needs
    → old.waiting ≡ drop taken before → new.waiting ≡ drop taken after → IsElseSame old new → old.is_spent ≡ false → new.is_spent ≡ true → Stops text bytes old new
stops text bytes left before after taken old new within f waited waits same went_on spent = record {
  lines = f.lines;
  replies = f.replies;
  here = f.here;
  front = subst (λ (l : List ℕ). FrontOf l f.lines) (sym f.read) (front_longer f.input left f.lines f.front);
  answers = f.answers;
  lost = subst (λ (l : List ℕ). LosesOne old.settings l f.lines f.here new.items) (sym f.read) (lost_longer old.settings f.input left f.lines f.here new.items f.lost);
  told = waits ∙ drop_more taken before after (replies_text f.replies) within f.told ∙ ap (λ (l : List ℕ). l ++ replies_text f.replies) (sym waited);
  same = same;
  went_on = went_on;
  spent = spent;
}
