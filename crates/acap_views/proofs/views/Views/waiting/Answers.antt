use Rattle.std.proofs.Common.{◌≡◌, ◌∙◌, ap, sym, subst, arith}
use Rattle.std.proofs.lemmas.List.{take_all}
use Rattle.std.specs.Int.{bit_at}
use Rattle.acap_views.specs.Keeping.{contexts_in, seats_in}
use Rattle.acap_views.specs.Waiting.{is_waiting}
use Rattle.acap_views.proofs.BitLemmas.{waiting_word}
use Rattle.acap_views.proofs.SeatBitLemmas.{any_of, next_bits, waits_among, waits_listed}
use Rattle.acap_views.proofs.views.Views.waiting.Goals as goal

pub returns : goal.returns
returns c =
    let at = c.loop-entry in
    let es = c.self.inside.seats.items in
    let all : _ ≡ es = take_all at.entry-index c.deref-entry-items.result.now c.loop-entry-test.false ∙ c.deref-entry-items.ensures.value in
    waiting_word (seats_in c.args.self.now) at.bits
    (λ n below.
    let same : is_waiting (seats_in c.args.self.now) n ≡ _ = ap (λ s. is_waiting (seats_in s) n) (sym c.self.view_is) ∙ waits_listed n es c.self.invariant ∙ ap (λ xs. waits_among xs n) (sym all) in
    let told = at.invariant.told n in
    (λ b. same ∙ told.0 b, λ b. told.1 (sym same ∙ b)))
    at.invariant.rest

pub loop-entry-preserved : goal.loop-entry-preserved
loop-entry-preserved c =
    let at = c.loop-entry in
    let new = c.with_bit-bits.result in
    let set = c.with_bit-bits.ensures in
    let number = c.number.ensures.value in
    record {
      told = λ n. next_bits c.deref-entry-items.result.now at.entry-index c.entry-item.result at.bits new n c.any_waits.result c.loop-entry-test.true c.entry-item.is
          (c.any_waits.ensures ∙ ap (λ contexts. any_of (contexts_in contexts)) c.contexts.ensures.value)
          (λ waits. subst (λ m. bit_at new m ≡ 1) number (set.one waits))
          (λ m other. set.others m (λ same. other (same ∙ number)))
          set.none (at.invariant.told n);
      rest = λ n above. set.others n (λ same. absurd (omega (arith, above, same, number, c.number.ensures.bound))) ∙ at.invariant.rest n above;
    }
