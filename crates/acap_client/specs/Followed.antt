-- What a follower answers.
use Rattle.std.specs.Prelude.{bytes_eq, take, drop, length, if◌then◌else◌, ℕ, List, Option, Some, None}
use Rattle.std.specs.Prelude.{Result, Ok, Err}
use Rattle.std.specs.Borrow.{Bor}
use Rattle.acap_client.specs.Following.{Followed, Goes, Misfit, freeing}
use Rattle.acap_notices.specs.declared.held_fault.HeldFault.{HeldFault}
use Rattle.acap_notices.specs.declared.held_fault.HeldFault.TheVariants as keep
use Rattle.acap_client.specs.declared.follow_fault.FollowFault.{FollowFault}
use Rattle.acap_client.specs.declared.follow_fault.FollowFault.TheVariants as fault

-- the context of a misfit
abbrev pub misfit_of : Followed → Option (List ℕ)
misfit_of (Goes f) = None
misfit_of (Misfit context) = Some context

abbrev pub misfit_in : Result (Unit {0}) FollowFault → Option (List ℕ)
misfit_in (Ok done) = None
misfit_in (Err (fault.Misfit context)) = Some context.now
misfit_in (Err fault.Memory) = None

-- what comes of a context, with its name where it is a misfit
abbrev pub answered : Result (Unit {0}) HeldFault → Bor (List ℕ) → Result (Unit {0}) FollowFault
answered (Ok done) context = Ok done
answered (Err keep.Misfit) context = Err (fault.Misfit context)
answered (Err keep.Memory) context = Err fault.Memory

-- the name of the context that a text says was freed
abbrev pub freed_name : List ℕ → Option (List ℕ)
freed_name text =
    if bytes_eq (take (length freeing) text) freeing then Some (drop (length freeing) text) else None
