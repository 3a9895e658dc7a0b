-- What a walk over the words that passes leaves in its rows.
use Rattle.std.proofs.Common.{◌≡◌, ◌&&◌, ℕ, zero, suc, Bool, true, false, not, true≢false, codes, cond, List, [], ◌∷◌, Option, Some, None, refl, IfSome, is_some, find, length, drop, fold, encode_utf8, slice_get}
use Rattle.std.specs.Bool.{⊤}
use Rattle.std.specs.List.{AllByRecursion}
use Rattle.std.specs.Option.{option_map_or}
use Rattle.std.specs.Str.{bytes_eq, chars}
use Rattle.clap.specs.Lexer.{long_of, short_of}
use Rattle.clap.specs.Kinds.{Kinds, or_else}
use Rattle.clap.specs.Simple.{Shape}
use Rattle.clap.specs.Walk.{Row, Rule, Text, Held, Outcome, done, waits, plain, refused, Waiting, idle, option, positional, Step, next, trailing, subcommand, value, Walk, Names, takes_values, takes_several, is_pending, arg_by_id, arg_by_long, arg_by_short, arg_by_index, attached_value, used, used_by_id, settled, settled_rows, reacted, option_met, flag_met, long_met, short_met, bundle, bundle_step, bundle_met, option_word, plain_word, after_flag, long_or_other, short_or_plain, subcommand_met, subcommand_or_other, word_met, to_positional, after_step, walked_from, walked}
use Rattle.clap.specs.declared.error.ErrorKind.{ErrorKind}
use Rattle.clap.specs.declared.error.ErrorKind.TheVariants.{DisplayHelp, InvalidSubcommand, TooManyValues}
use Rattle.clap.specs.Faults.{use_fault, settle_fault, react_fault, option_fault, long_fault, short_fault, bundle_step_fault, flags_fault, flag_word_fault, other_fault, word_fault, positional_fault, step_fault, walk_fault}

-- where neither of two steps fails, each passes
pub no_fault : (a b : Kinds) → or_else a b ≡ [] → (a ≡ []) × (b ≡ [])
no_fault [] b none = (refl, none)
no_fault (k ∷ ks) b none = absurd (cc)

-- what was found is one of those
pub found_among : {X : Type 0} (P : X → Type 0) (p : X → Bool) (xs : List X) → AllByRecursion P xs → IfSome (find p xs) P
found_among P p [] all = tt
found_among P p (x ∷ xs) (here, rest) = elim (p x) as (λ b. IfSome (cond b (Some x) (find p xs)) P) [ true ↦ here | false ↦ found_among P p xs rest ]

module _ (Good : List Row → Type 0) (s : Shape) where
  -- a use of the argument that passes keeps what is said of the rows
  abbrev pub Keeps : Rule → Type 0
  Keeps a = (values : List Text) (rows : List Row) → Good rows → use_fault s.args_override_self a values rows ≡ [] → Good (used a values rows)

  by_rule : (found : Option Rule) (values : List Text) (rows : List Row) → IfSome found Keeps → Good rows
      → option_map_or (λ a. use_fault s.args_override_self a values rows) found [] ≡ [] → Good (used_by_id found values rows)
  by_rule None values rows keeps good none = good
  by_rule (Some a) values rows keeps good none = keeps values rows good none

  module _ (all : AllByRecursion Keeps s.rules) where
    settle_by : (pending : Option (Text × List Text)) (rows : List Row) → Good rows
        → option_map_or (λ p. option_map_or (λ a. use_fault s.args_override_self a p.1 rows) (arg_by_id s.rules p.0) []) pending [] ≡ [] → Good (settled_rows s.rules pending rows)
    settle_by None rows good none = good
    settle_by (Some p) rows good none = by_rule (arg_by_id s.rules p.0) p.1 rows (found_among Keeps _ s.rules all) good none

    pub settle_keeps : (h : Held) → Good h.rows → settle_fault s.rules s.args_override_self h ≡ [] → Good (settled s.rules h).rows
    settle_keeps h good none = settle_by h.pending h.rows good none

    react_keeps : (a : Rule) (values : List Text) (h : Held) → Keeps a → Good h.rows → react_fault s.rules s.args_override_self a values h ≡ [] → Good (reacted s.rules a values h).rows
    react_keeps a values h keeps good none =
        let both = no_fault _ _ none in keeps values _ (settle_keeps h good both.0) both.1

    option_keeps : (a : Rule) (v : Option Text) (h : Held) → Keeps a → Good h.rows → option_fault s.rules s.args_override_self a v h ≡ [] → Good (option_met s.rules a v h).0.rows
    option_keeps a (Some v) h keeps good none = react_keeps a (v ∷ []) h keeps good none
    option_keeps a None h keeps good none = settle_keeps h good none

    flag_keeps : (a : Rule) (v : Option Text) (h : Held) (tooMany : Kinds) → Keeps a → Good h.rows
        → cond (is_some v) tooMany (react_fault s.rules s.args_override_self a [] h) ≡ [] → Good (flag_met s.rules a v h).0.rows
    flag_keeps a (Some v) h tooMany keeps good none = good
    flag_keeps a None h tooMany keeps good none = react_keeps a [] h keeps good none

    long_keeps : (found : Option Rule) (v : Option Text) (h : Held) → IfSome found Keeps → Good h.rows → long_fault s.rules s.args_override_self found v h ≡ []
        → Good (long_met s.rules found v h).0.rows
    long_keeps None v h keeps good none = good
    long_keeps (Some a) v h keeps good none =
        elim (takes_values a) as (λ b. cond b (option_fault s.rules s.args_override_self a v h) (cond (is_some v) (TooManyValues ∷ []) (react_fault s.rules s.args_override_self a [] h)) ≡ []
        → Good (cond b (option_met s.rules a v h) (flag_met s.rules a v h)).0.rows)
        [ true ↦ λ passes. option_keeps a v h keeps good passes | false ↦ λ passes. flag_keeps a v h (TooManyValues ∷ []) keeps good passes ] none

    short_keeps : (found : Option Rule) (rest : Text) (h : Held) (next_fault : Held → Kinds) (next_met : Held → Held × Outcome)
        → ((h : Held) → Good h.rows → next_fault h ≡ [] → Good (next_met h).0.rows) → IfSome found Keeps → Good h.rows
        → short_fault s.rules s.args_override_self found rest h next_fault ≡ [] → Good (short_met s.rules found rest h next_met).0.rows
    short_keeps None rest h next_fault next_met goes keeps good none = good
    short_keeps (Some a) rest h next_fault next_met goes keeps good none =
        elim (takes_values a) as (λ b. cond b (option_fault s.rules s.args_override_self a (attached_value rest) h) (or_else (react_fault s.rules s.args_override_self a [] h) (next_fault (reacted s.rules a [] h))) ≡ []
        → Good (cond b (option_met s.rules a (attached_value rest) h) (next_met (reacted s.rules a [] h))).0.rows) [
          | true ↦ λ passes. option_keeps a (attached_value rest) h keeps good passes
          | false ↦ λ passes. let both = no_fault _ _ passes in goes _ (react_keeps a [] h keeps good both.0) both.1
        ] none

    bundle_step_keeps : (first : Option ℕ) (flags : Text) (skip : ℕ) (so_far : Outcome) (h : Held) (next_fault : Text → ℕ → Held → Kinds) (next_met : Text → ℕ → Outcome → Held → Held × Outcome)
        → ((flags : Text) (skip : ℕ) (so_far : Outcome) (h : Held) → Good h.rows → next_fault flags skip h ≡ [] → Good (next_met flags skip so_far h).0.rows) → Good h.rows
        → bundle_step_fault s.rules s.args_override_self first flags skip h next_fault ≡ [] → Good (bundle_step s.rules first flags skip so_far h next_met).0.rows
    bundle_step_keeps None flags skip so_far h next_fault next_met goes good none = good
    bundle_step_keeps (Some x) flags zero so_far h next_fault next_met goes good none =
        let rest = drop (length (encode_utf8 x)) flags in
        short_keeps (arg_by_short s.rules x) rest h (next_fault rest 0) (next_met rest 0 done) (goes rest 0 done) (found_among Keeps _ s.rules all) good none
    bundle_step_keeps (Some x) flags (suc skip) so_far h next_fault next_met goes good none = goes _ skip so_far h good none

    bundle_keeps : (k : ℕ) (flags : Text) (skip : ℕ) (so_far : Outcome) (h : Held) → Good h.rows → flags_fault s.rules s.args_override_self k flags skip h ≡ []
        → Good (bundle_met s.rules k flags skip so_far h).0.rows
    unfolding bundle_met flags_fault
    bundle_keeps zero flags skip so_far h good none = good
    bundle_keeps (suc k) flags skip so_far h good none = bundle_step_keeps (slice_get (chars flags) 0) flags skip so_far h (flags_fault s.rules s.args_override_self k) (bundle_met s.rules k) (bundle_keeps k) good none

    option_word_keeps : (found : Option Rule) (id word : Text) (h : Held) → Good h.rows → Good (option_word found id word h).0.rows
    option_word_keeps None id word h good = good
    option_word_keeps (Some a) id word h good = good

    plain_keeps : (waiting : Waiting) (word : Text) (h : Held) → Good h.rows → Good (plain_word s.rules waiting word h).0.rows
    plain_keeps idle word h good = good
    plain_keeps (option id) word h good = option_word_keeps (arg_by_id s.rules id) id word h good
    plain_keeps positional word h good = good

    after_flag_keeps : (waiting : Waiting) (word : Text) (h : Held) (outcome : Outcome) → Good h.rows → Good (after_flag s.rules waiting word h outcome).0.rows
    after_flag_keeps waiting word h done good = good
    after_flag_keeps waiting word h (waits id) good = good
    after_flag_keeps waiting word h plain good = plain_keeps waiting word h good
    after_flag_keeps waiting word h refused good = plain_keeps waiting word h good

    short_or_plain_keeps : (waiting : Waiting) (word : Text) (flags : Option Text) (h : Held) → Good h.rows
        → option_map_or (λ flags. flags_fault s.rules s.args_override_self (length flags) flags h.skip (record h { skip = 0 })) flags [] ≡ []
        → Good (short_or_plain s.rules waiting word flags h).0.rows
    short_or_plain_keeps waiting word None h good none = plain_keeps waiting word h good
    short_or_plain_keeps waiting word (Some flags) h good none =
        after_flag_keeps waiting word (bundle s.rules flags h).0 (bundle s.rules flags h).1 (bundle_keeps (length flags) flags h.skip plain (record h { skip = 0 }) good none)

    flag_word_keeps : (waiting : Waiting) (word : Text) (named : Option (Text × Option Text)) (h : Held) → Good h.rows → flag_word_fault s.rules s.args_override_self named word h ≡ []
        → Good (long_or_other s.rules waiting word named h).0.rows
    flag_word_keeps waiting word (Some p) h good none =
        let met = long_met s.rules (arg_by_long s.rules p.0) p.1 h in
        after_flag_keeps waiting word met.0 met.1 (long_keeps (arg_by_long s.rules p.0) p.1 h (found_among Keeps _ s.rules all) good none)
    flag_word_keeps waiting word None h good none = short_or_plain_keeps waiting word (short_of word) h good none

    other_keeps : (met : Option Text) (waiting : Waiting) (position : ℕ) (word : Text) (h : Held) → Good h.rows → other_fault s met word h ≡ []
        → Good (subcommand_or_other s.rules met waiting position word h).0.rows
    other_keeps (Some name) waiting position word h good none = good
    other_keeps None waiting position word h good none =
        elim (bytes_eq word (45 ∷ 45 ∷ [])) as (λ b. cond b [] (flag_word_fault s.rules s.args_override_self (long_of word) word h) ≡ []
        → Good (cond b (h, trailing position) (long_or_other s.rules waiting word (long_of word) h)).0.rows)
        [ true ↦ λ passes. good | false ↦ λ passes. flag_word_keeps waiting word (long_of word) h good passes ] none

    word_keeps : (names : Names) (is_trailing : Bool) (waiting : Waiting) (position : ℕ) (word : Text) (h : Held) → Good h.rows → word_fault s names is_trailing waiting word h ≡ []
        → Good (word_met s.rules names is_trailing waiting position word h).0.rows
    word_keeps names true waiting position word h good none = good
    word_keeps names false waiting position word h good none = other_keeps (subcommand_met names waiting word) waiting position word h good none

    to_positional_keeps : (found : Option Rule) (word : Text) (w : Walk) (h : Held) (stray : Kinds) → Good h.rows
        → option_map_or (λ a. positional_fault s.rules s.args_override_self a h) found stray ≡ [] → Good (to_positional s.rules found word w h).held.rows
    to_positional_keeps None word w h stray good none = good
    to_positional_keeps (Some a) word w h stray good none =
        elim (is_pending a h.pending && takes_several a) as (λ b. cond b [] (settle_fault s.rules s.args_override_self h) ≡ [] → Good (cond b h (settled s.rules h)).rows)
        [ true ↦ λ passes. good | false ↦ λ passes. settle_keeps h good passes ] none

    after_step_keeps : (word : Text) (w : Walk) (h : Held) (step : Step) → Good h.rows → step_fault s w.position h step ≡ [] → Good (after_step s.rules word w h step).held.rows
    after_step_keeps word w h (next waiting) good none = good
    after_step_keeps word w h (trailing position) good none = good
    after_step_keeps word w h (subcommand name) good none = good
    after_step_keeps word w h value good none = to_positional_keeps (arg_by_index s.rules w.position) word w h _ good none

    turn_keeps : (names : Names) (w : Walk) (word : Text) (stopped : Option (Text × List Text)) → Good w.held.rows
        → cond (is_some stopped) [] (or_else (word_fault s names w.is_trailing w.waiting word w.held)
        (step_fault s w.position (word_met s.rules names w.is_trailing w.waiting w.position word w.held).0 (word_met s.rules names w.is_trailing w.waiting w.position word w.held).1)) ≡ []
        → Good (walked_from s.rules names stopped w word).held.rows
    turn_keeps names w word (Some p) good none = good
    turn_keeps names w word None good none =
        let both = no_fault _ _ none in
        let met = word_met s.rules names w.is_trailing w.waiting w.position word w.held in
        after_step_keeps word w met.0 met.1 (word_keeps names w.is_trailing w.waiting w.position word w.held good both.0) both.1

    -- the walk keeps it
    pub walk_keeps : (names : Names) (words : List Text) (w : Walk) → Good w.held.rows → walk_fault s names w words ≡ [] → Good (fold (walked s.rules names) w words).held.rows
    unfolding walk_fault walked
    walk_keeps names [] w good none = good
    walk_keeps names (word ∷ rest) w good none =
        let both = no_fault _ _ none in walk_keeps names rest (walked s.rules names w word) (turn_keeps names w word w.stopped good both.0) both.1

-- ---- where a walk stops that passes: at a subcommand, and not at the call for help

abbrev pub IsNoHelp : Text → Type 0
IsNoHelp name = bytes_eq name (codes "help") ≡ false

abbrev StepsToNoHelp : Step → Type 0
StepsToNoHelp (subcommand name) = IsNoHelp name
StepsToNoHelp _ = ⊤

abbrev pub StopsAtNoHelp : Option (Text × List Text) → Type 0
StopsAtNoHelp stop = IfSome stop (λ p. IsNoHelp p.0)

module _ (s : Shape) (helps : s.disable_help_subcommand ≡ false) where
  plain_steps : (waiting : Waiting) (word : Text) (h : Held) → StepsToNoHelp (plain_word s.rules waiting word h).1
  plain_steps idle word h = tt
  plain_steps (option id) word h = tt
  plain_steps positional word h = tt

  flag_steps : (waiting : Waiting) (word : Text) (h : Held) (outcome : Outcome) → StepsToNoHelp (after_flag s.rules waiting word h outcome).1
  flag_steps waiting word h done = tt
  flag_steps waiting word h (waits id) = tt
  flag_steps waiting word h plain = plain_steps waiting word h
  flag_steps waiting word h refused = plain_steps waiting word h

  short_or_plain_steps : (waiting : Waiting) (word : Text) (flags : Option Text) (h : Held) → StepsToNoHelp (short_or_plain s.rules waiting word flags h).1
  short_or_plain_steps waiting word None h = plain_steps waiting word h
  short_or_plain_steps waiting word (Some flags) h = flag_steps waiting word (bundle s.rules flags h).0 (bundle s.rules flags h).1

  long_or_other_steps : (waiting : Waiting) (word : Text) (named : Option (Text × Option Text)) (h : Held) → StepsToNoHelp (long_or_other s.rules waiting word named h).1
  long_or_other_steps waiting word (Some p) h =
      let met = long_met s.rules (arg_by_long s.rules p.0) p.1 h in flag_steps waiting word met.0 met.1
  long_or_other_steps waiting word None h = short_or_plain_steps waiting word (short_of word) h

  no_help : (is_help disabled : Bool) (k : ErrorKind) (ks : Kinds) → disabled ≡ false → cond (is_help && not disabled) (k ∷ ks) [] ≡ [] → is_help ≡ false
  no_help true true k ks on none = absurd (true≢false on)
  no_help true false k ks on none = absurd (cc)
  no_help false disabled k ks on none = refl

  other_steps : (met : Option Text) (waiting : Waiting) (position : ℕ) (word : Text) (h : Held) → other_fault s met word h ≡ []
      → StepsToNoHelp (subcommand_or_other s.rules met waiting position word h).1
  other_steps (Some name) waiting position word h none = no_help (bytes_eq name (codes "help")) s.disable_help_subcommand DisplayHelp (InvalidSubcommand ∷ []) helps none
  other_steps None waiting position word h none =
      elim (bytes_eq word (45 ∷ 45 ∷ [])) as (λ b. StepsToNoHelp (cond b (h, trailing position) (long_or_other s.rules waiting word (long_of word) h)).1)
      [ true ↦ tt | false ↦ long_or_other_steps waiting word (long_of word) h ]

  word_steps : (names : Names) (is_trailing : Bool) (waiting : Waiting) (position : ℕ) (word : Text) (h : Held) → word_fault s names is_trailing waiting word h ≡ []
      → StepsToNoHelp (word_met s.rules names is_trailing waiting position word h).1
  word_steps names true waiting position word h none = tt
  word_steps names false waiting position word h none = other_steps (subcommand_met names waiting word) waiting position word h none

  positional_stops : (found : Option Rule) (word : Text) (w : Walk) (h : Held) → StopsAtNoHelp w.stopped → StopsAtNoHelp (to_positional s.rules found word w h).stopped
  positional_stops None word w h stops = stops
  positional_stops (Some a) word w h stops = tt

  step_stops : (word : Text) (w : Walk) (h : Held) (step : Step) → StopsAtNoHelp w.stopped → StepsToNoHelp step → StopsAtNoHelp (after_step s.rules word w h step).stopped
  step_stops word w h (next waiting) stops steps = stops
  step_stops word w h (trailing position) stops steps = stops
  step_stops word w h (subcommand name) stops steps = steps
  step_stops word w h value stops steps = positional_stops (arg_by_index s.rules w.position) word w h stops

  turn_stops : (names : Names) (w : Walk) (word : Text) (stopped : Option (Text × List Text)) → StopsAtNoHelp w.stopped → StopsAtNoHelp stopped
      → cond (is_some stopped) [] (or_else (word_fault s names w.is_trailing w.waiting word w.held)
      (step_fault s w.position (word_met s.rules names w.is_trailing w.waiting w.position word w.held).0 (word_met s.rules names w.is_trailing w.waiting w.position word w.held).1)) ≡ []
      → StopsAtNoHelp (walked_from s.rules names stopped w word).stopped
  turn_stops names w word (Some p) own stops none = stops
  turn_stops names w word None own stops none =
      let met = word_met s.rules names w.is_trailing w.waiting w.position word w.held in
      step_stops word w met.0 met.1 own (word_steps names w.is_trailing w.waiting w.position word w.held (no_fault _ _ none).0)

  pub walk_stops : (names : Names) (words : List Text) (w : Walk) → StopsAtNoHelp w.stopped → walk_fault s names w words ≡ [] → StopsAtNoHelp (fold (walked s.rules names) w words).stopped
  unfolding walk_fault walked
  walk_stops names [] w stops none = stops
  walk_stops names (word ∷ rest) w stops none =
      let both = no_fault _ _ none in walk_stops names rest (walked s.rules names w word) (turn_stops names w word w.stopped stops stops both.0) both.1
