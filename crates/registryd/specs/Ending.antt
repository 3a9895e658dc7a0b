-- How the program ends.
use Rattle.std.specs.Prelude.{ℕ, List, [], ◌++◌, Option, codes, decimal}
use Rattle.std.specs.Io.KnownBytes.{Appends}
use Rattle.lines.specs.Texts.{IsBeginning}
use Rattle.journals.specs.declared.load.LoadFault.{LoadFault}
use Rattle.journals.specs.declared.load.LoadFault.TheVariants as unloaded
use Rattle.answers.specs.declared.fault.RunFault.{RunFault}
use Rattle.answers.specs.declared.fault.RunFault.TheVariants as broken
use Rattle.registryd.specs.Faults.{fault_text}
use Rattle.registryd.specs.declared.ends.End.{End}
use Rattle.registryd.specs.declared.ends.End.TheVariants.{Done, Input, Output, Journal, Kept, Memory, Words}

-- the exit status: 0 where all went well, 2 for bad words, and else 1
abbrev pub status_of : End → ℕ
status_of Done = 0
status_of Input = 1
status_of Output = 1
status_of (Journal line) = 1
status_of (Kept fault) = 1
status_of Memory = 1
status_of Words = 2

-- the line that tells at which line a journal was refused
abbrev pub journal_text : ℕ → List ℕ
journal_text line = codes "registryd: journal line " ++ (decimal line ++ codes "\n")

-- the text on standard error
abbrev pub text_of : End → List ℕ
text_of Done = []
text_of Input = codes "registryd: input failed\n"
text_of Output = codes "registryd: output failed\n"
text_of (Journal line) = journal_text line
text_of (Kept fault) = fault_text fault
text_of Memory = codes "registryd: no memory\n"
text_of Words = codes "registryd: bad words\n"

-- the line was written, or a beginning of it
abbrev pub TellsAtMost : Option (List ℕ) → Option (List ℕ) → List ℕ → Type 0
TellsAtMost before after line = (written : List ℕ) × Appends before after written × IsBeginning written line

-- the end that a fault of serving comes to
abbrev pub end_of_run : RunFault → End
end_of_run broken.Input = Input
end_of_run broken.Output = Output
end_of_run broken.Memory = Memory

-- the end of a program that has read no file
abbrev pub IsUnread : End → Type 0
IsUnread Done = ⊥
IsUnread Input = Unit {0}
IsUnread Output = ⊥
IsUnread (Journal line) = Unit {0}
IsUnread (Kept fault) = ⊥
IsUnread Memory = Unit {0}
IsUnread Words = ⊥

-- the end of a program that can't make the file that it is to leave
abbrev pub IsUnmade : End → Type 0
IsUnmade Done = ⊥
IsUnmade Input = ⊥
IsUnmade Output = Unit {0}
IsUnmade (Journal line) = ⊥
IsUnmade (Kept fault) = ⊥
IsUnmade Memory = Unit {0}
IsUnmade Words = ⊥

-- the end of a program that has come to its last step, to save a journal
abbrev pub IsSaved : End → Type 0
IsSaved Done = Unit {0}
IsSaved Input = ⊥
IsSaved Output = Unit {0}
IsSaved (Journal line) = ⊥
IsSaved (Kept fault) = ⊥
IsSaved Memory = ⊥
IsSaved Words = ⊥

-- the end that a fault of loading comes to
abbrev pub end_of_load : LoadFault → End
end_of_load (unloaded.Line line) = Journal line
end_of_load unloaded.Memory = Memory
end_of_load unloaded.Input = Input
