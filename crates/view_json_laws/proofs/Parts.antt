-- Events that describe a value, members of an object or items of an array, whatever follows them.
use Rattle.std.proofs.Common.{◌≡◌, ℕ, ◌+◌, Bool, true, List, [], ◌∷◌, ◌++◌, add-one, ap, refl, ◌∙◌, Option, None}
use Rattle.std.proofs.lemmas.Bool.{eq-eqb}
use Rattle.std.specs.List.{enumerate_from, flat_map}
use Rattle.view_events.specs.Event.{Event, listed}
use Rattle.view_json.specs.Names.{element}
use Rattle.view_json_laws.specs.Telling.{Behind, in_array, in_object, nothing, place_before, put, read_event}
use Rattle.view_json_laws.specs.Telling.{read_events}
use Rattle.view_json_laws.specs.Value.{Items, Members, Value, item, no_items, no_members, null}

-- a value at each place in an array
pub record TellsItem (events : ℕ → List Event) : Type 0 where
  pub value : Value
  pub is : (place : ℕ) (b : Behind) → read_events (events place) b ≡ put (element place) value b

-- members before others, of which the first may be the first of their object
pub record TellsMembers (follows : Bool) (events : List Event) : Type 0 where
  pub members : Members → Members
  pub is : (ms : Members) (b : Behind) → read_events events (in_object ms true b) ≡ in_object (members ms) follows b

-- what precedes the end of an object, or of an array
abbrev pub members_of : Behind → Members
members_of (in_object ms follows b) = ms
members_of b = no_members

abbrev pub first_of : Behind → Value
first_of (in_array (item x xs) before b) = x
first_of b = null

-- Whatever follows them, they describe what they describe before an end alone.
pub members_told : {follows : Bool} {events : List Event} → ((ms : Members) (b : Behind)
    → read_events events (in_object ms true b) ≡ in_object (members_of (read_events events (in_object ms true
    nothing))) follows b)
    → TellsMembers follows events
members_told {follows} {events} is =
    record { members = λ ms. members_of (read_events events (in_object ms true nothing)); is = is }

pub item_told : {events : ℕ → List Event} → ((place : ℕ) (b : Behind) → read_events (events place) b
    ≡ put (element place) (first_of (read_events (events 0) (in_array no_items None nothing))) b) → TellsItem events
item_told {events} is = record { value = first_of (read_events (events 0) (in_array no_items None nothing)); is = is }

abbrev pub before_items : ℕ → Items → Option ℕ
before_items place no_items = None
before_items place (item x xs) = place_before place

-- items from a place on
pub record TellsItems (place : ℕ) (events : List Event) : Type 0 where
  pub items : Items
  pub is : (b : Behind) → read_events events (in_array no_items None b) ≡ in_array items (before_items place items) b

-- and all items of an array
pub record TellsArray (events : List Event) : Type 0 where
  pub items : Items
  pub is : (b : Behind) → read_events events (in_array no_items None b) ≡ in_array items None b

pub told_append : (front others : List Event) (b : Behind)
    → read_events (front ++ others) b ≡ read_events front (read_events others b)
told_append [] others b = refl
told_append (event ∷ events) others b = ap (read_event event) (told_append events others b)

pub members_and : {follows : Bool} {front others : List Event} → TellsMembers follows front → TellsMembers true others
    → TellsMembers follows (front ++ others)
members_and {follows} {front} {others} f o = record {
  members = λ ms. f.members (o.members ms);
  is = λ ms b. told_append front others (in_object ms true b) ∙ ap (read_events front) (o.is ms b)
      ∙ f.is (o.members ms) b;
}

item_before : (place : ℕ) (x : Value) (xs : Items) (b : Behind)
    → put (element place) x (in_array xs (before_items (place + 1) xs) b)
    ≡ in_array (item x xs) (place_before place) b
item_before place x no_items b = refl
item_before place x (item y ys) b = rw (add-one, eq-eqb place place refl) refl

pub no_items_told : (place : ℕ) → TellsItems place []
no_items_told place = record { items = no_items; is = λ b. refl }

pub item_and : (place : ℕ) (events : ℕ → List Event) (others : List Event) → TellsItem events
    → TellsItems (place + 1) others → TellsItems place (events place ++ others)
item_and place events others e o = record {
  items = item e.value o.items;
  is = λ b. told_append (events place) others (in_array no_items None b) ∙ ap (read_events (events place)) (o.is b)
      ∙ e.is place (in_array o.items (before_items (place + 1) o.items) b) ∙ item_before place e.value o.items b;
}

pub whole_array : (events : List Event) → TellsItems 0 events → TellsArray events
whole_array events h = record {
  items = h.items;
  is = λ b. h.is b ∙ ap (λ (before : Option ℕ). in_array h.items before b) (at_start h.items);
}
  where
    at_start : (xs : Items) → before_items 0 xs ≡ None
    at_start no_items = refl
    at_start (item x xs) = refl

-- the events of items, each with its place
pub listed_told : {X : Type 0} (events : ℕ → X → List Event) → ((x : X) → TellsItem (λ place. events place x))
    → (xs : List X) → TellsArray (listed events xs)
listed_told {X} events each xs = whole_array (listed events xs) (go 0 xs)
  where
    go : (place : ℕ) (xs : List X)
        → TellsItems place (flat_map (λ (p : ℕ × X). events p.0 p.1) (enumerate_from place xs))
    go place [] = no_items_told place
    go place (x ∷ xs) = item_and place (λ p. events p x) _ (each x) (go (place + 1) xs)
