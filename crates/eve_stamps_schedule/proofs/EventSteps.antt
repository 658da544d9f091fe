-- From event to event.
use Rattle.std.proofs.Common.{◌≡◌, true, List, [], ◌∷◌, ◌++◌, IsTrue, refl, sym, subst, ap, ◌∙◌}
use Rattle.std.proofs.lemmas.Bool.{and_parts, and_from}
use Rattle.eve_stamps_schedule.specs.declared.event.Event.{Event}
use Rattle.eve_stamps_schedule.specs.World.{Plan, World, first_world}
use Rattle.eve_stamps_schedule.specs.Events.{is_allowed_event, happens, are_allowed, world_after}
use Rattle.eve_stamps_schedule.specs.Serial.{IsReachedWorld}

are_allowed-push : (p : Plan) (w : World) (events : List Event) (event : Event) → are_allowed p w events ≡ true
    → is_allowed_event p (world_after p w events) event ≡ true
    → are_allowed p w (events ++ event ∷ []) ≡ true
are_allowed-push p w [] event allowed last = and_from (is_allowed_event p w event) true last refl
are_allowed-push p w (first ∷ events) event allowed last =
    let parts = and_parts (is_allowed_event p w first) (are_allowed p (happens p w first) events) allowed in
    and_from (is_allowed_event p w first) (are_allowed p (happens p w first) (events ++ event ∷ [])) parts.0
    (are_allowed-push p (happens p w first) events event parts.1 last)

world_after-push : (p : Plan) (w : World) (events : List Event) (event : Event) → world_after p w (events ++ event ∷ [])
    ≡ happens p (world_after p w events) event
world_after-push p w [] event = refl
world_after-push p w (first ∷ events) event = world_after-push p (happens p w first) events event

pub reached_first : (p : Plan) → IsReachedWorld p (first_world p)
reached_first p = record { events = []; allowed = refl; world = refl }

pub reached_next : (p : Plan) (w : World) (event : Event) → IsReachedWorld p w → IsTrue (is_allowed_event p w event)
    → IsReachedWorld p (happens p w event)
reached_next p w event reached allowed = record {
  events = reached.events ++ event ∷ [];
  allowed = are_allowed-push p (first_world p) reached.events event reached.allowed
      (subst (λ v. is_allowed_event p v event ≡ true) reached.world allowed);
  world = ap (λ v. happens p v event) reached.world ∙ sym (world_after-push p (first_world p) reached.events event);
}
