use Rattle.replies.proofs.PutLemmas.{fails_before, fails_in, in_fails, in_put, put_in, put_then, put_then_fails}
use Rattle.replies.proofs.laws.puts_add_up.Goals as goal

pub returns : goal.returns
returns c = record {
  both = λ a b c x y z first second here next. in_put (put_then (put_in here) (put_in next));
  second_cut = λ a b c x y first second here next. in_fails (put_then_fails (put_in here) (fails_in next));
  first_cut = λ a b x first second failed. in_fails (fails_before (fails_in failed) second);
}
