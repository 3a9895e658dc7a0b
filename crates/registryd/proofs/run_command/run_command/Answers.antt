use Rattle.std.proofs.Common.{refl, length}
use Rattle.std.proofs.KnownBytes.{Keeps-refl}
use Rattle.registryd.specs.Behaves.{helps, keeps, lacks_memory, races, refuses, serves}
use Rattle.registryd.proofs.KeptLemmas.{err_same}
use Rattle.registryd.proofs.WordLemmas.{asks_for_nothing, keep_asks, race_asks, serve_asks}
use Rattle.registryd.proofs.run_command.run_command.Goals as goal

pub returns-in-Ok-Serve : goal.returns-in-Ok-Serve
returns-in-Ok-Serve g c =
    let words = c.in-Ok-Serve in
    serves _ _ _ (serve_asks _ _ _ _ _ _ _ _ words.ensures.taken words.ensures.ok words.field-0-is c.lent_name-from.ensures c.lent_name-to.ensures) c.serve-end.ensures

pub returns-in-Ok-Keep : goal.returns-in-Ok-Keep
returns-in-Ok-Keep g c =
    let words = c.in-Ok-Keep in
    keeps _ _ (keep_asks _ _ _ _ _ _ words.ensures.taken words.ensures.ok words.field-0-is c.as_str.ensures.value) c.keep.ensures

pub returns-in-Ok-Race : goal.returns-in-Ok-Race
returns-in-Ok-Race g c =
    let words = c.in-Ok-Race in
    races (length c.as_slice.result.now) (race_asks _ _ words.files _ words.ensures.taken words.ensures.ok words.field-0-is c.as_slice.ensures.value) (Keeps-refl _) c.race_files-end.ensures

pub returns-in-Err-Help : goal.returns-in-Err-Help
returns-in-Err-Help g c = helps (c.in-Err-Help.ensures.help (err_same _ _ _ c.in-Err-Help.field-0-is)) (Keeps-refl _) c.show_help-end.ensures

pub returns-in-Err-Bad : goal.returns-in-Err-Bad
returns-in-Err-Bad g c =
    let is = err_same _ _ _ c.in-Err-Bad.field-0-is in
    refuses (asks_for_nothing _ (c.in-Err-Bad.ensures.bad is) (c.in-Err-Bad.ensures.helped is)) refl (Keeps-refl _, Keeps-refl _)

pub returns-in-Err-Memory : goal.returns-in-Err-Memory
returns-in-Err-Memory g c = lacks_memory refl (Keeps-refl _, Keeps-refl _)
