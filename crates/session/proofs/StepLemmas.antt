-- A session answers line by line, each line a step from where it stands.
use Rattle.std.proofs.Common.{◌≡◌, inl, inr, ℕ, List, [], ◌∷◌, ◌++◌, Option, None, Some, Result, Ok, Err, MatchResult, ◌+◌, ◌<◌, ◌≤◌, refl, sym, ap, subst, ◌∙◌, append_assoc, append-nil, if◌then◌else◌, length, arith}
use Rattle.std.proofs.lemmas.Bool.{lt-leb}
use Rattle.std.specs.Option.{option_or}
use Rattle.std.specs.Prelude.{is_none}
use Rattle.versions.specs.declared.refusal.Refusal.{Refusal}
use Rattle.versions.specs.declared.refusal.Refusal.TheVariants.{NoMemory}
use Rattle.registry.specs.Commands.{change_of}
use Rattle.registry.specs.Registry.{Packages}
use Rattle.registry.specs.Step.{Change, Publish, Unyank, Yank}
use Rattle.registry.specs.declared.commands.Command.{Command}
use Rattle.derivations.specs.Lines.{Line}
use Rattle.book.specs.Items.{Book, IsLegal, after as after_item, book_of, empty, packages_of, refusal, replay, revision_of, stepped}
use Rattle.book.specs.declared.item.Item.{Item}
use Rattle.book.specs.declared.item.Item.TheVariants as item
use Rattle.wire.specs.Requests.{request_of}
use Rattle.wire.specs.Shapes.{Request, check, command, listing, resolve}
use Rattle.replies.specs.Replies.{Body, Reply, accepted, refused}
use Rattle.answers.specs.Lawful.{Answers, AreLawfulWithin, IsLawfulWithin, IsRefused, Learns, MayAnswer, asked_within, bounded_if, item_of, reply_at}
use Rattle.answers.specs.Outcomes.{MayTell, TellsFound, TellsListing, TellsSpent, TellsVerdict}
use Rattle.answers.specs.declared.settings.Settings.{Settings}
use Rattle.session.specs.SessionState.{is_full}
use Rattle.session.specs.Session.{Accepts, AreAccepted, IsSession, commands_of, refusal_after, session_ways}
use Rattle.session.specs.Step.{AreFree, AreReplies, IsTold, SessionsAreReachable, State, accepted_by, accepted_of, after, after_all, refusal_at, state_of, told_of}
use Rattle.session.specs.declared.session_state.TheConstants.{MOST_COMMANDS}
use Rattle.session.proofs.ServedLemmas.{free_or}

-- ---- where a session stands with one item more

replay-more : (book : Book) (items : List Item) (i : Item) → replay book (items ++ i ∷ []) ≡ stepped (replay book items) i
replay-more book [] i = refl
replay-more book (x ∷ items) i = replay-more (stepped book x) items i

stepped-free : (book : Book) (i : Item) → refusal book i ≡ None → stepped book i ≡ after_item book i
unfolding stepped
stepped-free book i free = ap (λ (o : Option Refusal). if is_none o then after_item book i else book) free

book-more : (items : List Item) (i : Item) → refusal_after items i ≡ None → book_of (items ++ i ∷ []) ≡ after_item (book_of items) i
book-more items i free = replay-more empty items i ∙ stepped-free (book_of items) i (free_or (is_full (revision_of items) (length items) i) (book_of items) i free).1

abbrev state_in : Book → State
state_in book = record { packages = book.packages; revision = book.revision }

state-command : (items : List Item) (c : Command) → refusal_after items (item.Command c) ≡ None → state_of (items ++ item.Command c ∷ []) ≡ after_all (state_of items) (change_of c ∷ [])
unfolding after_item
state-command items c free = ap state_in (book-more items (item.Command c) free)

state-learnt : (items : List Item) (lines : List Line) → refusal_after items (item.Learnt lines) ≡ None → state_of (items ++ item.Learnt lines ∷ []) ≡ state_of items
unfolding after_item
state-learnt items lines free = ap state_in (book-more items (item.Learnt lines) free)

state-accepted : (begun added : List Item) → AreAccepted begun added → state_of (begun ++ added) ≡ after_all (state_of begun) (commands_of added)
state-accepted begun [] are = ap state_of (append-nil begun)
state-accepted begun (item.Command c ∷ added) (free, said, rest) =
    ap state_of (sym (append_assoc begun (item.Command c ∷ []) added)) ∙ state-accepted (begun ++ item.Command c ∷ []) added rest
    ∙ ap (λ (s : State). after_all s (commands_of added)) (state-command begun c free)
state-accepted begun (item.Learnt lines ∷ added) (free, said, rest) =
    ap state_of (sym (append_assoc begun (item.Learnt lines ∷ []) added)) ∙ state-accepted (begun ++ item.Learnt lines ∷ []) added rest
    ∙ ap (λ (s : State). after_all s (commands_of added)) (state-learnt begun lines free)

-- where it stands is told by the commands alone
pub state-journal : (begun : List Item) (commands : List Change) (items : List Item) → Accepts begun commands items → state_of items ≡ after_all (state_of begun) commands
state-journal begun commands items j = ap state_of j.all ∙ state-accepted begun j.added j.accepted ∙ ap (after_all (state_of begun)) j.commands_are

-- ---- journals that grow

pub accepts_none : (items : List Item) → Accepts items [] items
accepts_none items = record { added = []; all = sym (append-nil items); commands_are = refl; accepted = tt }

pub accepts_same : (old new : List Item) → new ≡ old → Accepts old [] new
accepts_same old new is = subst (Accepts old []) (sym is) (accepts_none old)

accepts_one : (old : List Item) (i : Item) (new : List Item) → session_ways.enters old i new → Accepts old (commands_of (i ∷ [])) new
accepts_one old i new (free, is, said) = record { added = i ∷ []; all = is; commands_are = refl; accepted = (free, said, tt) }

commands_of-append : (xs ys : List Item) → commands_of (xs ++ ys) ≡ commands_of xs ++ commands_of ys
commands_of-append [] ys = refl
commands_of-append (item.Command c ∷ xs) ys = ap (λ (l : List Change). change_of c ∷ l) (commands_of-append xs ys)
commands_of-append (item.Learnt lines ∷ xs) ys = commands_of-append xs ys

accepted-append : (before xs ys : List Item) → AreAccepted before xs → AreAccepted (before ++ xs) ys → AreAccepted before (xs ++ ys)
accepted-append before [] ys one two = subst (λ (l : List Item). AreAccepted l ys) (append-nil before) two
accepted-append before (x ∷ xs) ys (free, said, rest) two =
    (free, said, accepted-append (before ++ x ∷ []) xs ys rest (subst (λ (l : List Item). AreAccepted l ys) (sym (append_assoc before (x ∷ []) xs)) two))

accepts_more : (old mid new : List Item) (xs ys : List Change) → Accepts old xs mid → Accepts mid ys new → Accepts old (xs ++ ys) new
accepts_more old mid new xs ys one two = record {
  added = one.added ++ two.added;
  all = two.all ∙ ap (λ (l : List Item). l ++ two.added) one.all ∙ append_assoc old one.added two.added;
  commands_are = commands_of-append one.added two.added ∙ ap (λ (l : List Change). l ++ commands_of two.added) one.commands_are
      ∙ ap (λ (l : List Change). xs ++ l) two.commands_are;
  accepted = accepted-append old one.added two.added one.accepted (subst (λ (l : List Item). AreAccepted l two.added) one.all two.accepted);
}

pub learns_accept : (offered : List (List Line)) (old new : List Item) → Learns session_ways old offered new → Accepts old [] new
learns_accept [] old new is = accepts_same old new is
learns_accept (lines ∷ rest) old new (mid, inl same, more) = accepts_more old mid new [] [] (accepts_same old mid same) (learns_accept rest mid new more)
learns_accept (lines ∷ rest) old new (mid, inr (follows, enters), more) =
    accepts_more old mid new [] [] (accepts_one old (item.Learnt lines) mid enters) (learns_accept rest mid new more)

-- ---- one line

-- of what a line asks this is replied
record Step (said : Result Request Refusal) (old : List Item) (reply : Reply) (new : List Item) : Type 0 where
  told : MayTell (IsTold None (state_of old) said) reply.body
  journal : Accepts old (accepted_by said reply.body) new
  revision : reply.revision ≡ revision_of new
  stamp : reply.stamp ≡ None

-- no command is accepted
told_step : (said : Result Request Refusal) (old : List Item) (reply : Reply) (new : List Item) (body : Body) → reply ≡ reply_at session_ways old body → accepted_by said body ≡ [] → Accepts old [] new
    → MayTell (IsTold None (state_of old) said) body → Step said old reply new
told_step said old reply new body is none journal told =
    let body_is : reply.body ≡ body = ap (λ (r : Reply). r.body) is in
    record {
      told = subst (MayTell (IsTold None (state_of old) said)) (sym body_is) told;
      journal = subst (λ (commands : List Change). Accepts old commands new) (sym (ap (accepted_by said) body_is ∙ none)) journal;
      revision = ap (λ (r : Reply). r.revision) is ∙ sym (ap (λ (s : State). s.revision) (state-journal old [] new journal));
      stamp = ap (λ (r : Reply). r.stamp) is;
    }

-- what is told of the items that there were
told_before : (old new : List Item) (reply : Reply) (body : Body) → new ≡ old → reply ≡ reply_at session_ways new body → reply ≡ reply_at session_ways old body
told_before old new reply body same told = subst (λ (items : List Item). reply ≡ reply_at session_ways items body) same told

refused_none : (said : Result Request Refusal) (e : Refusal) → accepted_by said (refused e) ≡ []
refused_none (Ok (command change)) e = refl
refused_none (Ok (resolve wanted explain budget)) e = refl
refused_none (Ok (check wanted lines)) e = refl
refused_none (Ok listing) e = refl
refused_none (Err fault) e = refl

refused_step : (said : Result Request Refusal) (old : List Item) (reply : Reply) (new : List Item) (e : Refusal) → new ≡ old → reply ≡ reply_at session_ways new (refused e)
    → MayTell (IsTold None (state_of old) said) (refused e) → Step said old reply new
refused_step said old reply new e same told may =
    told_step said old reply new (refused e) (told_before old new reply (refused e) same told) (refused_none said e) (accepts_same old new same) may

item_commands : (change : Change) → commands_of (item_of change ∷ []) ≡ change ∷ []
item_commands (Publish name version needs) = refl
item_commands (Yank name version) = refl
item_commands (Unyank name version) = refl

refusal_same : (items : List Item) (change : Change) → refusal_after items (item_of change) ≡ refusal_at (state_of items) change
unfolding refusal
refusal_same items (Publish name version needs) = refl
refusal_same items (Yank name version) = refl
refusal_same items (Unyank name version) = refl

entered_step : (change : Change) (old : List Item) (reply : Reply) (new : List Item) → session_ways.enters old (item_of change) new → reply ≡ reply_at session_ways new accepted
    → Step (Ok (command change)) old reply new
entered_step change old reply new enters is =
    let body_is : reply.body ≡ accepted = ap (λ (r : Reply). r.body) is in
    let free : refusal_at (state_of old) change ≡ None = sym (refusal_same old change) ∙ enters.0 in
    let one : Accepts old (change ∷ []) new = subst (λ (commands : List Change). Accepts old commands new) (item_commands change) (accepts_one old (item_of change) new enters) in
    record {
      told = inr (body_is ∙ sym (ap told_of free));
      journal = subst (λ (commands : List Change). Accepts old commands new) (sym (ap (accepted_by (Ok (command change))) body_is)) one;
      revision = ap (λ (r : Reply). r.revision) is;
      stamp = ap (λ (r : Reply). r.stamp) is;
    }

or_none : (own : Option ℕ) → own ≡ option_or own None
or_none None = refl
or_none (Some budget) = refl

answered_step : (request : Request) (old : List Item) (reply : Reply) (new : List Item) → Answers session_ways request old reply new → Step (Ok request) old reply new
answered_step (command change) old reply new (inl (enters, told)) = entered_step change old reply new enters told
answered_step (command change) old reply new (inr (same, (e, applies, told))) =
    let here : refusal_at (state_of old) change ≡ Some e = sym (refusal_same old change) ∙ subst (λ (items : List Item). refusal_after items (item_of change) ≡ Some e) same applies in
    refused_step (Ok (command change)) old reply new e same told (inr (sym (ap told_of here)))
answered_step (resolve wanted explain budget) old reply new (inl (mid, (same, (body, tells, told)), (offered, learns))) =
    told_step (Ok (resolve wanted explain budget)) old reply new body (told_before old mid reply body same told) refl
    (subst (λ (items : List Item). Accepts items [] new) same (learns_accept offered mid new learns))
    (inr (inl (subst (λ (packages : Packages). TellsFound packages wanted explain body) (ap packages_of same) tells)))
answered_step (resolve wanted explain budget) old reply new (inr (same, (body, spent, told))) =
    told_step (Ok (resolve wanted explain budget)) old reply new body (told_before old new reply body same told) refl (accepts_same old new same)
    (inr (inr (subst (λ (within : Option ℕ). TellsSpent (packages_of old) wanted within body) (or_none budget)
    (subst (λ (packages : Packages). TellsSpent packages wanted budget body) (ap packages_of same) spent))))
answered_step (check wanted lines) old reply new (same, (body, tells, told)) =
    told_step (Ok (check wanted lines)) old reply new body (told_before old new reply body same told) refl (accepts_same old new same)
    (inr (subst (λ (packages : Packages). TellsVerdict packages wanted lines body) (ap packages_of same) tells))
answered_step listing old reply new (same, (body, tells, told)) =
    told_step (Ok listing) old reply new body (told_before old new reply body same told) refl (accepts_same old new same)
    (inr (subst (λ (packages : Packages). TellsListing packages body) (ap packages_of same) tells))

may_answer_step : (request : Request) (old : List Item) (reply : Reply) (new : List Item) → MayAnswer session_ways request old reply new → Step (Ok request) old reply new
may_answer_step request old reply new (inl (same, (e, inl is, told))) = refused_step (Ok request) old reply new e same told (inl (ap (λ (r : Refusal). refused r) is))
may_answer_step request old reply new (inl (same, (e, inr none, told))) = absurd none
may_answer_step request old reply new (inr answers) = answered_step request old reply new answers

said_step : (said : Result Request Refusal) (old : List Item) (reply : Reply) (new : List Item)
    → MatchResult said (λ request. MayAnswer session_ways request old reply new) (λ fault. IsRefused session_ways fault old reply new) → Step said old reply new
said_step (Ok request) old reply new answers = may_answer_step request old reply new answers
said_step (Err fault) old reply new (same, told) = refused_step (Err fault) old reply new fault same told (inr refl)

line_step : (settings : Settings) (line : List ℕ) (old : List Item) (reply : Reply) (new : List Item) → IsLawfulWithin settings session_ways line old reply new
    → Step (asked_within settings.budget line) old reply new
line_step settings line old reply new (inl (same, told)) = refused_step (asked_within settings.budget line) old reply new NoMemory same told (inl refl)
line_step settings line old reply new (inr told) = said_step (asked_within settings.budget line) old reply new told

-- ---- what is told within a budget

bounded_told : (budget : ℕ) (said : Result Request Refusal) (state : State) (body : Body) → IsTold None state (bounded_if budget said) body → IsTold (Some budget) state said body
bounded_told budget (Ok (command change)) state body told = told
bounded_told budget (Ok (resolve wanted explain None)) state body told = told
bounded_told budget (Ok (resolve wanted explain (Some own))) state body told = told
bounded_told budget (Ok (check wanted lines)) state body told = told
bounded_told budget (Ok listing) state body told = told
bounded_told budget (Err fault) state body told = told

told_within : (limit : Option ℕ) (line : List ℕ) (state : State) (body : Body) → IsTold None state (asked_within limit line) body → IsTold limit state (request_of line) body
told_within None line state body told = told
told_within (Some budget) line state body told = bounded_told budget (request_of line) state body told

may_tell_within : (limit : Option ℕ) (line : List ℕ) (state : State) (body : Body) → MayTell (IsTold None state (asked_within limit line)) body
    → MayTell (IsTold limit state (request_of line)) body
may_tell_within limit line state body (inl none) = inl none
may_tell_within limit line state body (inr told) = inr (told_within limit line state body told)

bounded_accepted : (budget : ℕ) (said : Result Request Refusal) (body : Body) → accepted_by (bounded_if budget said) body ≡ accepted_by said body
bounded_accepted budget (Ok (command change)) body = refl
bounded_accepted budget (Ok (resolve wanted explain None)) body = refl
bounded_accepted budget (Ok (resolve wanted explain (Some own))) body = refl
bounded_accepted budget (Ok (check wanted lines)) body = refl
bounded_accepted budget (Ok listing) body = refl
bounded_accepted budget (Err fault) body = refl

accepted_within : (limit : Option ℕ) (line : List ℕ) (body : Body) → accepted_by (asked_within limit line) body ≡ accepted_by (request_of line) body
accepted_within None line body = refl
accepted_within (Some budget) line body = bounded_accepted budget (request_of line) body

-- a line that is lawfully answered is a step
pub session_line : (settings : Settings) (line : List ℕ) (old : List Item) (reply : Reply) (new : List Item) → IsLawfulWithin settings session_ways line old reply new
    → IsSession settings old (line ∷ []) (reply ∷ []) new
session_line settings line old reply new lawful =
    let s = line_step settings line old reply new lawful in
    let commands = accepted_by (request_of line) reply.body in
    let journal : Accepts old commands new = subst (λ (l : List Change). Accepts old l new) (accepted_within settings.budget line reply.body) s.journal in
    record {
      replied = (
        record {
          told = may_tell_within settings.budget line (state_of old) reply.body s.told;
          revision = s.revision ∙ ap (λ (st : State). st.revision) (state-journal old commands new journal);
          stamp = s.stamp;
        },
        tt,
      );
      journal = subst (λ (l : List Change). Accepts old l new) (sym (append-nil commands)) journal;
    }

-- ---- lines one after another

after_all-append : (state : State) (xs ys : List Change) → after_all state (xs ++ ys) ≡ after_all (after_all state xs) ys
after_all-append state [] ys = refl
after_all-append state (x ∷ xs) ys = after_all-append (after_all state (x ∷ [])) xs ys

accepted_of-append : (budget : Option ℕ) (state : State) (lines more : List (List ℕ)) (replies behind : List Reply) → AreReplies budget state lines replies
    → accepted_of (lines ++ more) (replies ++ behind) ≡ accepted_of lines replies ++ accepted_of more behind
accepted_of-append budget state [] more [] behind are = refl
accepted_of-append budget state [] more (reply ∷ replies) behind are = absurd are
accepted_of-append budget state (line ∷ lines) more [] behind are = absurd are
accepted_of-append budget state (line ∷ lines) more (reply ∷ replies) behind (one, are) =
    let first = accepted_by (request_of line) reply.body in
    ap (λ (l : List Change). first ++ l) (accepted_of-append budget (after state line reply) lines more replies behind are)
    ∙ sym (append_assoc first (accepted_of lines replies) (accepted_of more behind))

replies-append : (budget : Option ℕ) (state : State) (lines more : List (List ℕ)) (replies behind : List Reply) → AreReplies budget state lines replies
    → AreReplies budget (after_all state (accepted_of lines replies)) more behind → AreReplies budget state (lines ++ more) (replies ++ behind)
replies-append budget state [] more [] behind are rest = rest
replies-append budget state [] more (reply ∷ replies) behind are rest = absurd are
replies-append budget state (line ∷ lines) more [] behind are rest = absurd are
replies-append budget state (line ∷ lines) more (reply ∷ replies) behind (one, are) rest = (
  one,
  replies-append budget (after state line reply) lines more replies behind are
      (subst (λ (s : State). AreReplies budget s more behind) (after_all-append state (accepted_by (request_of line) reply.body) (accepted_of lines replies)) rest),
)

-- before the first line
pub session_none : (settings : Settings) (items : List Item) → IsSession settings items [] [] items
session_none settings items = record { replied = tt; journal = accepts_none items }

-- and lines behind others
pub session_more : (settings : Settings) (old mid new : List Item) (lines more : List (List ℕ)) (replies behind : List Reply) → IsSession settings old lines replies mid
    → IsSession settings mid more behind new → IsSession settings old (lines ++ more) (replies ++ behind) new
session_more settings old mid new lines more replies behind one two = record {
  replied = replies-append settings.budget (state_of old) lines more replies behind one.replied
      (subst (λ (s : State). AreReplies settings.budget s more behind) (state-journal old (accepted_of lines replies) mid one.journal) two.replied);
  journal = subst (λ (l : List Change). Accepts old l new) (sym (accepted_of-append settings.budget (state_of old) lines more replies behind one.replied))
      (accepts_more old mid new (accepted_of lines replies) (accepted_of more behind) one.journal two.journal);
}

-- lines that are lawfully answered
pub session_told : (settings : Settings) (lines : List (List ℕ)) (old : List Item) (replies : List Reply) (new : List Item) → AreLawfulWithin settings session_ways lines old replies new
    → IsSession settings old lines replies new
session_told settings [] old [] new is = subst (IsSession settings old [] []) (sym is) (session_none settings old)
session_told settings (line ∷ lines) old (reply ∷ replies) new (mid, first, rest) =
    session_more settings old mid new (line ∷ []) lines (reply ∷ []) replies (session_line settings line old reply mid first) (session_told settings lines mid replies new rest)
session_told settings [] old (reply ∷ replies) new is = absurd is
session_told settings (line ∷ lines) old [] new is = absurd is

-- a session only accepts more
pub session_begins : {settings : Settings} {old : List Item} {lines : List (List ℕ)} {replies : List Reply} {new : List Item} → IsSession settings old lines replies new → (rest : List Item) × (new ≡ old ++ rest)
session_begins s = (s.journal.added, s.journal.all)

-- ---- commands lead where it stands

revision-after : (book : Book) (i : Item) → book.revision ≤ (after_item book i).revision
unfolding after_item
revision-after book (item.Command c) = omega arith
revision-after book (item.Learnt lines) = omega arith

revision-stepped : (book : Book) (i : Item) → book.revision ≤ (stepped book i).revision
unfolding stepped
revision-stepped book i = elim (refusal book i) as (λ o. book.revision ≤ (if is_none o then after_item book i else book).revision) [ None ↦ revision-after book i | Some e ↦ omega arith ]

revision-grows : (book : Book) (items : List Item) → book.revision ≤ (replay book items).revision
revision-grows book [] = omega arith
revision-grows book (i ∷ items) = let one = revision-stepped book i in let rest = revision-grows (stepped book i) items in omega (arith, one, rest)

-- a command that is not refused, where not all are accepted that may be
free-there : (book : Book) (c : Command) → refusal book (item.Command c) ≡ None → book.revision < MOST_COMMANDS → refusal_at (state_in book) (change_of c) ≡ None
unfolding refusal
free-there book c free few = rw (lt-leb MOST_COMMANDS book.revision few) free

stepped-command : (book : Book) (c : Command) → refusal book (item.Command c) ≡ None → state_in (stepped book (item.Command c)) ≡ after_all (state_in book) (change_of c ∷ [])
unfolding after_item
stepped-command book c free = ap state_in (stepped-free book (item.Command c) free)

stepped-learnt : (book : Book) (lines : List Line) → refusal book (item.Learnt lines) ≡ None → state_in (stepped book (item.Learnt lines)) ≡ state_in book
unfolding after_item
stepped-learnt book lines free = ap state_in (stepped-free book (item.Learnt lines) free)

all_reach : (book : Book) (items : List Item) → IsLegal book items → (replay book items).revision ≤ MOST_COMMANDS
    → AreFree (state_in book) (commands_of items) × (state_in (replay book items) ≡ after_all (state_in book) (commands_of items))
all_reach book [] legal few = (tt, refl)
all_reach book (item.Command c ∷ items) (free, legal) few =
    let rest = all_reach (stepped book (item.Command c)) items legal few in
    let moved = stepped-command book c free in
    let within = revision-grows (stepped book (item.Command c)) items in
    let one : (stepped book (item.Command c)).revision ≡ book.revision + 1 = ap (λ (s : State). s.revision) moved in (
      (free-there book c free (omega (arith, within, one, few)), subst (λ (s : State). AreFree s (commands_of items)) moved rest.0),
      rest.1 ∙ ap (λ (s : State). after_all s (commands_of items)) moved,
    )
all_reach book (item.Learnt lines ∷ items) (free, legal) few =
    let rest = all_reach (stepped book (item.Learnt lines)) items legal few in
    let moved = stepped-learnt book lines free in (
      subst (λ (s : State). AreFree s (commands_of items)) moved rest.0,
      rest.1 ∙ ap (λ (s : State). after_all s (commands_of items)) moved,
    )

pub sessions_are_reachable : SessionsAreReachable
unfolding empty
sessions_are_reachable = record { none = refl; served = λ items served. let all = all_reach empty items served.legal served.commands in (commands_of items, all.0, all.1) }
