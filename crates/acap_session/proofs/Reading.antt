-- How often was read.
use Rattle.std.proofs.Common.{◌≡◌, inl, inr, ℕ, ◌+◌, ◌<◌, ◌≤◌, min, true, false, option_map, Option, Some, None, refl, ap, ◌∙◌, arith}
use Rattle.acap_session.specs.Streams.{HasEndedReads, HasGiven, IfTold, ReaderTold, after_read, up_by}

-- so many reads were made, none of which failed
pub record IsCounted (n : ℕ) (old new : ReaderTold) : Type 0 where
  pub failures : new.failures ≡ old.failures
  pub reads : min new.reads 18446744073709551615 ≡ up_by n old.reads
  pub bound : 0 < n → new.reads ≤ 18446744073709551615
  pub most : new.reads ≤ old.reads + n

abbrev pub HasCounted : Option ReaderTold → Option ReaderTold → ℕ → Type 0
HasCounted old new n = IfTold (IsCounted n) old new

pub none_counted : (r : Option ReaderTold) → HasCounted r r 0
none_counted None = tt
none_counted (Some t) = record { failures = refl; reads = omega arith; bound = λ k. absurd (omega (arith, k)); most = omega arith }

pub more_counted : (a b c : Option ReaderTold) (n : ℕ) → HasCounted a b n → c ≡ option_map (after_read true) b → HasCounted a c (n + 1)
more_counted None b c n h e = tt
more_counted (Some old) None c n h e = absurd h
more_counted (Some old) (Some mid) None n h e = absurd cc
more_counted (Some old) (Some mid) (Some new) n h e =
    let now : new ≡ after_read true mid = cc in
    let reads : new.reads ≡ min (mid.reads + 1) 18446744073709551615 = ap (λ (t : ReaderTold). t.reads) now in
    record {
      failures = ap (λ (t : ReaderTold). t.failures) now ∙ h.failures;
      reads = omega (arith, h.reads, reads);
      bound = λ k. omega (arith, reads);
      most = omega (arith, h.most, reads);
    }

pub none_failed : (a b : Option ReaderTold) (n : ℕ) → n ≤ 1000000000 → HasCounted a b n → IfTold HasGiven a b
none_failed None b n l h = tt
none_failed (Some old) None n l h = absurd h
none_failed (Some old) (Some new) n l h = (h.failures, omega (arith, h.most, l))

pub fault_told : (a b c : Option ReaderTold) (n : ℕ) → n < 1000000000 → HasCounted a b n → c ≡ option_map (after_read false) b → IfTold HasEndedReads a c
fault_told None b c n l h e = tt
fault_told (Some old) None c n l h e = absurd h
fault_told (Some old) (Some mid) None n l h e = absurd cc
fault_told (Some old) (Some mid) (Some new) n l h e =
    let now : new ≡ after_read false mid = cc in
    let reads : new.reads ≡ min (mid.reads + 1) 18446744073709551615 = ap (λ (t : ReaderTold). t.reads) now in
    inl (ap (λ (t : ReaderTold). t.failures) now ∙ ap (λ k. up_by 1 k) h.failures, omega (arith, h.most, l, reads))

pub bound_told : (a b : Option ReaderTold) (n : ℕ) → n ≡ 1000000000 → HasCounted a b n → IfTold HasEndedReads a b
bound_told None b n e h = tt
bound_told (Some old) None n e h = absurd h
bound_told (Some old) (Some new) n e h =
    let some : 0 < n = omega (arith, e) in
    let reads : new.reads ≡ up_by 1000000000 old.reads = omega (arith, e, h.reads, h.bound some) in
    let failures = h.failures in
    inr (λ i. record { reads = reads i; failures = failures i })
