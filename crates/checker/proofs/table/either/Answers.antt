use Rattle.std.proofs.Common.{◌≡◌, ◌||◌, ℕ}
use Rattle.std.proofs.lemmas.Result.{IfOk-weaker}
use Rattle.std.specs.Option.{option_copied}
use Rattle.std.specs.Prelude.{Option}
use Rattle.terms.specs.Fronts.{true_where}
use Rattle.terms.specs.Terms.{true_of}
use Rattle.terms.specs.declared.term.Term.{Term}
use Rattle.terms.specs.declared.term.Term.TheVariants.{NotIn}
use Rattle.checker.proofs.Joining.{either-always}
use Rattle.checker.proofs.table.either.Goals as goal

pub returns-in-None : goal.returns-in-None
returns-in-None c =
    IfOk-weaker c.of.result (λ (said : Term). said ≡ NotIn c.new.result)
    (λ (joined : Term). (choice : Option ℕ) → true_of joined choice ≡ (true_of c.args.said.now choice || true_where (option_copied c.args.other) choice))
    (λ said same choice. rw (c.in-None.is, same, c.new.ensures) (either-always c.args.said.now choice)) c.of.ensures
