-- What is promised of an end, by cases of it.
use Rattle.std.proofs.Common.{◌≡◌, ◌⊎◌, ℕ, List, Option, inl, inr, refl, sym, subst}
use Rattle.std.proofs.KnownBytes.{Appends-trans, Keeps-refl}
use Rattle.std.specs.Io.KnownBytes.{Keeps}
use Rattle.versions.specs.Words.{Text}
use Rattle.lines.specs.Lines.{whole_lines_of}
use Rattle.answers.specs.declared.fault.RunFault.{RunFault}
use Rattle.answers.specs.declared.fault.RunFault.TheVariants as fault
use Rattle.answers.specs.declared.settings.Settings.{Settings}
use Rattle.session.specs.Session.{Breaks, Serves}
use Rattle.session.specs.Step.{State}
use Rattle.session.specs.Streams.{AreUntouched, Streams, streams}
use Rattle.registryd.specs.Behaves.{Advises, AllServed, HasKept, HasRaced, HasServed, IsUnloaded, Tells}
use Rattle.registryd.specs.Calls.{Io}
use Rattle.registryd.specs.CommandOutcomes.{Backed, Ends, IsFaultIn, Stops}
use Rattle.registryd.specs.Ending.{IsSaved, IsUnmade, IsUnread, TellsAtMost, end_of_run, text_of}
use Rattle.registryd.specs.Shown.{shown_text}
use Rattle.registryd.specs.declared.ends.End.{End}
use Rattle.registryd.specs.declared.ends.End.TheVariants as end
use Rattle.registryd.specs.declared.fault.FileFault.{FileFault}
use Rattle.registryd.proofs.KeptLemmas.{none_broken}

module _ (settings : Settings) (begun : State) (s : Streams) where
  -- all was served, and the journal was saved, or not
  pub saved : (e : End) → IsSaved e → AllServed settings begun s → HasServed settings begun s e
  saved end.Done is all = all
  saved end.Input is all = absurd is
  saved end.Output is all = inr all
  saved (end.Journal line) is all = absurd is
  saved (end.Kept told) is all = absurd is
  saved end.Memory is all = absurd is
  saved end.Words is all = absurd is

  -- a session ended by a fault
  pub failed : (f : RunFault) (e : End) → e ≡ end_of_run f → (f ≡ fault.Input → Serves settings s whole_lines_of begun)
      → (f ≡ fault.Output → Breaks settings s begun) → (f ≡ fault.Memory → AreUntouched s) → HasServed settings begun s e
  failed fault.Input e is input output memory = subst (HasServed settings begun s) (sym is) (input refl)
  failed fault.Output e is input output memory = subst (HasServed settings begun s) (sym is) (inl (output refl))
  failed fault.Memory e is input output memory = subst (HasServed settings begun s) (sym is) (memory refl)

-- the file that a session is to leave can't be made, and it isn't begun
pub unmade : (settings : Settings) (begun : State) (r w : Option (List ℕ)) (e : End) → IsUnmade e → HasServed settings begun (streams r r w w) e
unmade settings begun r w end.Done is = absurd is
unmade settings begun r w end.Input is = absurd is
unmade settings begun r w end.Output is = inl (none_broken settings r w begun)
unmade settings begun r w (end.Journal line) is = absurd is
unmade settings begun r w (end.Kept told) is = absurd is
unmade settings begun r w end.Memory is = (Keeps-refl r, Keeps-refl w)
unmade settings begun r w end.Words is = absurd is

-- the journal to begin from isn't had
pub unloaded : {F : Type 0} (remaining : F → Option (List ℕ)) (e : End) → IsUnread e → ((line : ℕ) → e ≡ end.Journal line → IsFaultIn remaining line) → IsUnloaded remaining e
unloaded remaining end.Done is line = is
unloaded remaining end.Input is line = tt
unloaded remaining end.Output is line = is
unloaded remaining (end.Journal number) is line = line number refl
unloaded remaining (end.Kept told) is line = is
unloaded remaining end.Memory is line = tt
unloaded remaining end.Words is line = is

-- what is promised of a session whose journal is kept, end by end
pub kept : {F : Type 0} (settings : Settings) (journal : Text) (io : Io F) (e : End) → (e ≡ end.Done → Ends settings io) → (e ≡ end.Input → Stops settings io) → (e ≡ end.Output → Backed settings io)
    → ((told : FileFault) → e ≡ end.Kept told → (told.name.items ≡ shown_text journal) × (AreUntouched io.streams ⊎ Backed settings io)) → (e ≡ end.Memory → AreUntouched io.streams)
    → ((line : ℕ) → e ≡ end.Journal line → ⊥) → (e ≡ end.Words → ⊥) → HasKept settings journal io e
kept settings journal io end.Done done input output told memory line words = done refl
kept settings journal io end.Input done input output told memory line words = input refl
kept settings journal io end.Output done input output told memory line words = output refl
kept settings journal io (end.Journal number) done input output told memory line words = line number refl
kept settings journal io (end.Kept told_of) done input output told memory line words = told told_of refl
kept settings journal io end.Memory done input output told memory line words = memory refl
kept settings journal io end.Words done input output told memory line words = words refl

-- a race ended by a fault
pub race_failed : (count : ℕ) (before after : Option (List ℕ)) (f : RunFault) (e : End) → e ≡ end_of_run f → (f ≡ fault.Input → ⊥)
    → (f ≡ fault.Output → HasRaced count before after end.Output) → (f ≡ fault.Memory → Keeps before after) → HasRaced count before after e
race_failed count before after fault.Input e is input output memory = absurd (input refl)
race_failed count before after fault.Output e is input output memory = subst (HasRaced count before after) (sym is) (output refl)
race_failed count before after fault.Memory e is input output memory = subst (HasRaced count before after) (sym is) (memory refl)

-- no race, for want of a file or of memory
pub not_raced : (count : ℕ) (w : Option (List ℕ)) (e : End) → (e ≡ end.Memory) ⊎ (e ≡ end.Input) → HasRaced count w w e
not_raced count w e ends = elim ends [
  | inl is ↦ subst (HasRaced count w w) (sym is) (Keeps-refl w)
  | inr is ↦ subst (HasRaced count w w) (sym is) (Keeps-refl w)
]

-- what stands on standard error: advice, and the line that tells the end
pub tells : (before amid after : Option (List ℕ)) (e : End) → Advises before amid e → TellsAtMost amid after (text_of e) → Tells before after e
tells before amid after e (advice, only, advised) (line, told, beginning) = record {
  advice = advice;
  only = only;
  line = line;
  beginning = beginning;
  written = Appends-trans before amid after advice line advised told;
}
