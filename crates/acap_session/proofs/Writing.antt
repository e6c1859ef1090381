-- How often a writer was asked, and that it failed.
use Rattle.std.proofs.Common.{◌≡◌, inl, inr, ℕ, ◌+◌, ◌<◌, ◌≤◌, min, true, false, option_map, is_ok, Option, Some, None, OnErr, OnOk, Result, Ok, Err, refl, ap, ◌∙◌, arith}
use Rattle.acap_session.specs.Streams.{HasEndedWrites, HasTaken, IfTold, WriterTold, after_write, up_by}

-- so many writes were made, none of which failed
pub record IsCounted (n : ℕ) (old new : WriterTold) : Type 0 where
  pub failures : new.failures ≡ old.failures
  pub writes : min new.writes 18446744073709551615 ≡ up_by n old.writes
  pub bound : 0 < n → new.writes ≤ 18446744073709551615

abbrev pub HasCounted : Option WriterTold → Option WriterTold → ℕ → Type 0
HasCounted old new n = IfTold (IsCounted n) old new

pub none_counted : (r : Option WriterTold) → HasCounted r r 0
none_counted None = tt
none_counted (Some t) = record { failures = refl; writes = omega arith; bound = λ k. absurd (omega (arith, k)) }

pub more_counted : (a b c : Option WriterTold) (n : ℕ) → HasCounted a b n → c ≡ option_map (after_write true) b → HasCounted a c (n + 1)
more_counted None b c n h e = tt
more_counted (Some old) None c n h e = absurd h
more_counted (Some old) (Some mid) None n h e = absurd cc
more_counted (Some old) (Some mid) (Some new) n h e =
    let now : new ≡ after_write true mid = cc in
    let writes : new.writes ≡ min (mid.writes + 1) 18446744073709551615 = ap (λ (t : WriterTold). t.writes) now in
    record {
      failures = ap (λ (t : WriterTold). t.failures) now ∙ h.failures;
      writes = omega (arith, h.writes, writes);
      bound = λ k. omega (arith, writes);
    }

pub none_failed : (a b : Option WriterTold) (n : ℕ) → HasCounted a b n → IfTold HasTaken a b
none_failed None b n h = tt
none_failed (Some old) None n h = absurd h
none_failed (Some old) (Some new) n h = h.failures

pub fault_told : (a b c : Option WriterTold) (n : ℕ) → HasCounted a b n → c ≡ option_map (after_write false) b → IfTold HasEndedWrites a c
fault_told None b c n h e = tt
fault_told (Some old) None c n h e = absurd h
fault_told (Some old) (Some mid) None n h e = absurd cc
fault_told (Some old) (Some mid) (Some new) n h e =
    let now : new ≡ after_write false mid = cc in
    inl (ap (λ (t : WriterTold). t.failures) now ∙ ap (λ k. up_by 1 k) h.failures)

pub bound_told : (a b : Option WriterTold) (n : ℕ) → n ≡ 18446744073709551615 → HasCounted a b n → IfTold HasEndedWrites a b
bound_told None b n e h = tt
bound_told (Some old) None n e h = absurd h
bound_told (Some old) (Some new) n e h =
    let some : 0 < n = omega (arith, e) in
    let writes : new.writes ≡ 18446744073709551615 = omega (arith, e, h.writes, h.bound some) in
    inr (h.failures, writes)

-- ---- one write behind others, none of which failed

pub taken_then : (a b c : Option WriterTold) → IfTold HasTaken a b → IfTold HasTaken b c → IfTold HasTaken a c
taken_then None b c h k = tt
taken_then (Some old) None c h k = absurd h
taken_then (Some old) (Some mid) None h k = absurd k
taken_then (Some old) (Some mid) (Some new) h k = k ∙ h

pub ended_then : (a b c : Option WriterTold) → IfTold HasTaken a b → IfTold HasEndedWrites b c → IfTold HasEndedWrites a c
ended_then None b c h k = tt
ended_then (Some old) None c h k = absurd h
ended_then (Some old) (Some mid) None h k = absurd k
ended_then (Some old) (Some mid) (Some new) h (inl k) = inl (k ∙ ap (λ n. up_by 1 n) h)
ended_then (Some old) (Some mid) (Some new) h (inr k) = inr (k.0 ∙ h, k.1)

took : (b c : Option WriterTold) → c ≡ option_map (after_write true) b → IfTold HasTaken b c
took None c e = tt
took (Some mid) None e = absurd cc
took (Some mid) (Some new) e = let now : new ≡ after_write true mid = cc in ap (λ (t : WriterTold). t.failures) now

failed : (b c : Option WriterTold) → c ≡ option_map (after_write false) b → IfTold HasEndedWrites b c
failed None c e = tt
failed (Some mid) None e = absurd cc
failed (Some mid) (Some new) e = let now : new ≡ after_write false mid = cc in inl (ap (λ (t : WriterTold). t.failures) now)

-- by how the last one ended
pub taken_at_last : {T E : Type 0} (r : Result T E) (a b c : Option WriterTold) → IfTold HasTaken a b → c ≡ option_map (after_write (is_ok r)) b → OnOk r (IfTold HasTaken a c)
taken_at_last (Ok x) a b c h e = taken_then a b c h (took b c e)
taken_at_last (Err x) a b c h e = tt

pub failed_at_last : {T E : Type 0} (r : Result T E) (a b c : Option WriterTold) → IfTold HasTaken a b → c ≡ option_map (after_write (is_ok r)) b → OnErr r (IfTold HasEndedWrites a c)
failed_at_last (Ok x) a b c h e = tt
failed_at_last (Err x) a b c h e = ended_then a b c h (failed b c e)

pub none_taken : (r : Option WriterTold) → IfTold HasTaken r r
none_taken None = tt
none_taken (Some t) = refl
