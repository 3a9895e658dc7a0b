use Rattle.std.proofs.Common.{List, ap, refl, sym, subst, true, [], ◌∷◌, inl, inr, ◌≡◌, ◌∙◌}
use Rattle.std.proofs.lemmas.Result.{IfOk-from_err}
use Rattle.clap.specs.Words.{App, HasKind, IsAmong, Kinds, Text, fault_of, is_simple, is_simple_and_free, kind_of, subcommand_of, takes}
use Rattle.clap.specs.declared.error.Error.{Error}
use Rattle.clap.specs.declared.error.kind.ErrorKind.TheVariants.{DisplayHelp, OutOfMemory}
use Rattle.clap.proofs.OnLiterals.{clap_on_literals}
use Rattle.command_line.specs.CommandLine.{program_app}
use Rattle.command_line.specs.Words.{IsGiven, texts}
use Rattle.command_line.proofs.GivenValues.{given_values}
use Rattle.command_line.proofs.words.matches_of.Goals as goal

is_plain : is_simple program_app ≡ true
unfolding clap_on_literals
is_plain = refl

is_free : is_simple_and_free program_app ≡ true
unfolding clap_on_literals
is_free = refl

-- where no kind of fault may come, memory ran out
only_memory : (kinds : Kinds) (e : Error) → kinds ≡ [] → HasKind kinds e → kind_of e ≡ OutOfMemory
only_memory [] e none (inl memory) = memory
only_memory [] e none (inr among) = absurd among
only_memory (k ∷ ks) e none has = absurd (cc)

faultless : (c : goal.In-Ok) → fault_of program_app (texts c.args.words.now) ≡ []
faultless c =
    let app = c.in_ok-command.ensures in
    ap (λ (a : App). fault_of a (texts c.args.words.now)) (sym app) ∙ c.in-Ok.ensures.kinds (ap is_simple_and_free app ∙ is_free)

pub returns-in-Ok-clause-ok : goal.returns-in-Ok-clause-ok
returns-in-Ok-clause-ok c =
    let app = c.in_ok-command.ensures in
    (c.in-Ok.ensures.matches (ap is_simple app ∙ is_plain)).1 ∙ ap (λ (a : App). subcommand_of a (texts c.args.words.now)) app

pub returns-in-Ok-clause-given : goal.returns-in-Ok-clause-given
returns-in-Ok-clause-given c =
    let app = c.in_ok-command.ensures in
    let rows = (c.in-Ok.ensures.matches (ap is_simple app ∙ is_plain)).1 ∙ ap (λ (a : App). subcommand_of a (texts c.args.words.now)) app in
    subst IsGiven (sym rows) (given_values (texts c.args.words.now) (faultless c))

pub returns-in-Ok-clause-taken : goal.returns-in-Ok-clause-taken
returns-in-Ok-clause-taken c = faultless c

-- what a parse of the words by this command fails by
faults : (app : App) (words : List Text) (e : Error) → app ≡ program_app → (is_simple_and_free app ≡ true → HasKind (fault_of app words) e) → HasKind (fault_of program_app words) e
faults app words e is fails = subst (λ (a : App). HasKind (fault_of a words) e) is (fails (ap is_simple_and_free is ∙ is_free))

pub returns-in-Err-clause-bad : goal.returns-in-Err-clause-bad
returns-in-Err-clause-bad c = λ bad none.
    (c.fault_in.ensures.bad (cc)).0 (only_memory _ c.in-Err.e none (faults _ _ c.in-Err.e c.in_ok-command.ensures c.in-Err.ensures.kinds))

pub returns-in-Err-clause-refused : goal.returns-in-Err-clause-refused
returns-in-Err-clause-refused c = λ bad taken.
    let app = c.in_ok-command.ensures in
    let memory = c.in-Err.ensures.passes (ap (λ (a : App). takes a (texts c.args.words.now)) app ∙ taken) in
    (c.fault_in.ensures.bad (cc)).0 memory

-- an error of this kind is among those that may come
among : (e : Error) (kinds : Kinds) → kind_of e ≡ DisplayHelp → HasKind kinds e → IsAmong DisplayHelp kinds
among e kinds is (inl memory) = absurd (cc)
among e kinds is (inr one) = subst (λ k. IsAmong k kinds) is one

pub returns-in-Err-clause-help : goal.returns-in-Err-clause-help
returns-in-Err-clause-help c = λ help. among c.in-Err.e _ (c.fault_in.ensures.help (cc)) (faults _ _ c.in-Err.e c.in_ok-command.ensures c.in-Err.ensures.kinds)

-- where help alone may come, it came, or memory ran out
memory_or_help : (e : Error) → (kind_of e ≡ OutOfMemory → ⊥) → (kind_of e ≡ DisplayHelp → ⊥) → HasKind (DisplayHelp ∷ []) e → ⊥
memory_or_help e no_memory no_help (inl memory) = no_memory memory
memory_or_help e no_memory no_help (inr (inl help)) = no_help help
memory_or_help e no_memory no_help (inr (inr none)) = none

pub returns-in-Err-clause-helped : goal.returns-in-Err-clause-helped
returns-in-Err-clause-helped c = λ bad asked.
    let other = c.fault_in.ensures.bad (cc) in
    let kinds = faults _ _ c.in-Err.e c.in_ok-command.ensures c.in-Err.ensures.kinds in
    memory_or_help c.in-Err.e other.0 other.1 (subst (λ kinds. HasKind kinds c.in-Err.e) asked kinds)

pub returns-in_err-command-clause-ok : goal.returns-in_err-command-clause-ok
returns-in_err-command-clause-ok c = IfOk-from_err c.from_residual.result _ c.from_residual.ensures.0

pub returns-in_err-command-clause-given : goal.returns-in_err-command-clause-given
returns-in_err-command-clause-given c = IfOk-from_err c.from_residual.result _ c.from_residual.ensures.0

pub returns-in_err-command-clause-taken : goal.returns-in_err-command-clause-taken
returns-in_err-command-clause-taken c = IfOk-from_err c.from_residual.result _ c.from_residual.ensures.0
