use mathlib.Core.Path.{◌≡◌, sym, ◌∙◌, subst}
use mathlib.Core.List.{List}
use Rattle.registry.specs.Slots.{Entry}
use Rattle.registry.specs.Registry.{slots_of}
use Rattle.registry.proofs.RegistryLaws.{slot_below}
use Rattle.shipped.specs.Shipped.{keys_in, listed_named}
use Rattle.shipped.specs.code.Pairs.{place_end, Finds}
use Rattle.lookup.specs.Lookup.{listed_in, key_named}
use Rattle.lookup.specs.code.Places.{Within, source_at, SlotNamed}
use Rattle.lookup.proofs.LookupLaws.{own_named, none_own, listed_there, listed_nowhere}
use Rattle.lookup.proofs.find.find_key.Goals as goal
use Rattle.lookup.proofs.find.find_key.Goals.{After-find_listed}

pub returns-in-Some : goal.returns-in-Some
unfolding source_at Within SlotNamed
returns-in-Some c =
    let s = c.args in
    let slots : List Entry = slots_of s.registry.now s.line in
    let e = sym c.find_slot.ensures ∙ c.in-Some.is in
    record {
      source = sym (own_named s.name.now slots (keys_in s.list.now) _ e);
      within = slot_below s.registry.now s.line _ _ e;
      slot = e;
    }

-- no own key has the name
not_own : (c : After-find_listed) → let s = c.args in
    key_named s.name.now (slots_of s.registry.now s.line) (keys_in s.list.now) ≡ listed_in (listed_named s.name.now (keys_in s.list.now))
not_own c =
    let s = c.args in
    none_own s.name.now (slots_of s.registry.now s.line) (keys_in s.list.now) (sym c.find_slot.ensures ∙ c.in_default.is)

pub returns-in-Some-find_listed : goal.returns-in-Some-find_listed
unfolding source_at Within SlotNamed place_end
returns-in-Some-find_listed c =
    let w = (goal.at.returns-in-Some-find_listed c).After-find_listed in
    let s = c.args in
    let finds = subst (Finds s.list.now s.name.now) c.in-Some-find_listed.is c.find_listed.ensures in
    record {
      source = sym (not_own w ∙ listed_there s.list.now s.name.now _ finds);
      within = finds.within;
      slot = tt;
    }

pub returns-in-None : goal.returns-in-None
unfolding source_at Within SlotNamed
returns-in-None c =
    let w = (goal.at.returns-in-None c).After-find_listed in
    let s = c.args in
    let finds = subst (Finds s.list.now s.name.now) c.in-None.is c.find_listed.ensures in
    record {
      source = sym (not_own w ∙ listed_nowhere s.list.now s.name.now finds);
      within = tt;
      slot = tt;
    }
