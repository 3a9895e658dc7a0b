-- What is read and what is written.
use Rattle.std.specs.Prelude.{ℕ, List, Option}
use Rattle.std.specs.Io.KnownBytes.{Keeps}

-- what a reader has yet to give and what a writer has taken, before and after, where they are known
pub record Streams : Type 0 where
  pub read_before : Option (List ℕ)
  pub read_after : Option (List ℕ)
  pub written_before : Option (List ℕ)
  pub written_after : Option (List ℕ)

abbrev pub streams : Option (List ℕ) → Option (List ℕ) → Option (List ℕ) → Option (List ℕ) → Streams
streams r0 r w0 w = record { read_before = r0; read_after = r; written_before = w0; written_after = w }

-- those of a reader and a writer, by what contracts see of each
abbrev pub streams_of : {R W : Type 0} → (R → Option (List ℕ)) → (W → Option (List ℕ)) → R → R → W → W → Streams
streams_of remaining contents reader reader' writer writer' = streams (remaining reader) (remaining reader') (contents writer) (contents writer')

-- nothing was read or written
abbrev pub AreUntouched : Streams → Type 0
AreUntouched s = Keeps s.read_before s.read_after × Keeps s.written_before s.written_after
