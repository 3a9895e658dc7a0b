use Rattle.std.proofs.lemmas.Result.{IfOk-from_err}
use Rattle.checker.proofs.replaying.replay_in.Goals as goal

pub end_of-requires : goal.end_of-requires
end_of-requires c = c.in_ok-push_records.ensures.lines c.requires.lines

-- where memory is refused

pub returns-in_err-push_records : goal.returns-in_err-push_records
returns-in_err-push_records c = IfOk-from_err c.from_residual.result _ c.from_residual.ensures.0
