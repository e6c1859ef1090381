-- What is said of readers and writers: how often a reader was asked and failed, and what a writer has of
-- octets.
use Rattle.std.specs.Prelude.{◌≡◌, ◌⊎◌, ◌+◌, ◌≤◌, ℕ, List, ◌++◌, Bool, true, false, Option, Some, None, min}
use Rattle.std.specs.Io.KnownBytes.{Appends}

-- ---- what a reader reports

-- how often it was asked, and how often it failed, each counted up to the last number
pub record ReaderTold : Type 0 where
  pub reads : ℕ
  pub failures : ℕ

-- so much more, up to the last number
abbrev pub up_by : ℕ → ℕ → ℕ
up_by more n = min (n + more) 18446744073709551615

-- after `n` reads that gave octets or the end
abbrev pub after_reads : ℕ → ReaderTold → ReaderTold
after_reads n t = record t { reads = up_by n t.reads }

-- after one, which gave them, or failed
abbrev pub after_read : Bool → ReaderTold → ReaderTold
after_read true t = after_reads 1 t
after_read false t = record { reads = up_by 1 t.reads; failures = up_by 1 t.failures }

-- where a reader or a writer reports that, it is so
abbrev pub IfTold : {T : Type 0} → (T → T → Type 0) → Option T → Option T → Type 0
IfTold Is None new = Unit {0}
IfTold Is (Some old) None = ⊥
IfTold Is (Some old) (Some new) = Is old new

-- no read failed, and there were 1,000,000,000 at most
abbrev pub HasGiven : ReaderTold → ReaderTold → Type 0
HasGiven old new = (new.failures ≡ old.failures) × (new.reads ≤ old.reads + 1000000000)

-- one failed, or there were 1,000,000,000, none of which failed
abbrev pub HasEndedReads : ReaderTold → ReaderTold → Type 0
HasEndedReads old new = ((new.failures ≡ up_by 1 old.failures) × (new.reads ≤ old.reads + 1000000000))
    ⊎ (new ≡ after_reads 1000000000 old)

-- ---- what a writer reports

-- how often it was asked, and how often it failed, each counted up to the last number
pub record WriterTold : Type 0 where
  pub writes : ℕ
  pub failures : ℕ

-- after one time, at which it took what it took, or failed
abbrev pub after_write : Bool → WriterTold → WriterTold
after_write true t = record t { writes = up_by 1 t.writes }
after_write false t = record { writes = up_by 1 t.writes; failures = up_by 1 t.failures }

-- it didn't fail
abbrev pub HasTaken : WriterTold → WriterTold → Type 0
HasTaken old new = new.failures ≡ old.failures

-- it failed once, or didn't, and was asked as often as can be counted
abbrev pub HasEndedWrites : WriterTold → WriterTold → Type 0
HasEndedWrites old new = (new.failures ≡ up_by 1 old.failures)
    ⊎ ((new.failures ≡ old.failures) × (new.writes ≡ 18446744073709551615))

-- ---- what was written

-- octets, by what the writer has before and after
abbrev pub Sends : {W : Type 0} → (W → Option (List ℕ)) → W → W → List ℕ → Type 0
Sends contents old new octets = Appends (contents old) (contents new) octets

-- a prefix of octets
pub record SendsFront (old new : Option (List ℕ)) (octets : List ℕ) : Type 0 where
  pub front : List ℕ
  pub rest : List ℕ
  pub is : octets ≡ front ++ rest
  pub sent : Appends old new front
