use Rattle.std.proofs.Common.{Ok, inr}
use Rattle.answers.proofs.LawfulLemmas.{as_asked, found_reply, lawful_append, unfound_reply}
use Rattle.answers.proofs.laws.lawful_replies_add_up.Goals as goal

pub returns : goal.returns
returns g c = record {
  lines = lawful_append g.L.Backend.ways;
  asked = λ settings line request old reply new is may. as_asked g.L.Backend.ways settings line old reply new (Ok request) is may;
  found = found_reply g.L.Backend.ways;
  stopped = λ wanted explain budget old new e looks stops. unfound_reply g.L.Backend.ways wanted explain budget old new e looks (inr stops);
}
