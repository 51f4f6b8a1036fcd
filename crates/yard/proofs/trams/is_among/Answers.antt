-- `yard::trams::is_among` meets its contract: the library's tests of the slots and of the entries are the definition's of their trams. Assumes
-- nothing.
use Rattle.std.proofs.Common.{rules, refl, sym, ◌≡◌, ◌∙◌, eqb, map, List, Bool}
use Rattle.std.proofs.lemmas.List.Recursion.{or_is}
use Rattle.std.specs.List.{list_any}
use Rattle.model.specs.Yard.{holders, among, free_slot, no_entry}
use Rattle.model.specs.declared.Slot.{Slot}
use Rattle.model.specs.declared.Slot.TheVariants.{Held}
use Rattle.model.specs.declared.Waiting.{Waiting}
use Rattle.model.specs.contracts.SlotPartialEq.TheImpl as slot
use Rattle.yard.proofs.TramLists.{among_holders, among_append}
use Rattle.yard.proofs.trams.is_among.Goals as goal

pub returns-then-any : goal.returns-then-any
returns-then-any c =
    let a = c.args in
    let held : c.any.result ≡ list_any (λ s. slot.ghosts.eq s (Held a.tram)) a.slots.now =
    or_is (list_any (λ s. slot.ghosts.eq s (Held a.tram))) (λ s. slot.ghosts.eq s (Held a.tram)) refl (λ _ _. refl) a.slots.now free_slot _
    (λ some. search rules) (λ none. search rules) in
    let holds = sym (among_holders a.tram a.slots.now) ∙ sym held ∙ c.if-any.true in
    c.if-any.true ∙ rw (among_append a.tram (holders a.slots.now), holds)

pub returns-else-any : goal.returns-else-any
unfolding among
returns-else-any c =
    let a = c.args in
    let held : c.any.result ≡ list_any (λ s. slot.ghosts.eq s (Held a.tram)) a.slots.now =
    or_is (list_any (λ s. slot.ghosts.eq s (Held a.tram))) (λ s. slot.ghosts.eq s (Held a.tram)) refl (λ _ _. refl) a.slots.now free_slot _
    (λ some. search rules) (λ none. search rules) in
    let holds = sym (among_holders a.tram a.slots.now) ∙ sym held ∙ c.if-any.false in
    rw (among_append a.tram (holders a.slots.now), holds)
    (or_is (λ ws. among a.tram (map (λ (w : Waiting). w.tram) ws)) (λ w. eqb w.tram a.tram) refl (λ _ _. refl) a.entries.now no_entry _
    (λ some. search rules) (λ none. search rules))
