use Rattle.std.proofs.Common.{◌≡◌, ◌++◌, append_assoc}
use Rattle.std.proofs.Math.Seq.{take-append_seam}
use Rattle.acap_grammar.specs.Refusals.{permission_code}
use Rattle.acap_grammar.proofs.codes.append_permission.Goals as goal

pub returns : goal.returns
returns c =
    let appended : c.extend_from_slice-2.new.self.items ≡ c.args.out.now.items ++ permission_code c.args.object.now =
    rw (c.in_ok-extend_from_slice-2.ensures.items, c.in_ok-append_object.ensures.ok, c.in_ok-extend_from_slice.ensures.items) (simp append_assoc) in
    record { ok = appended; grows = rw appended (take-append_seam _ _) }
