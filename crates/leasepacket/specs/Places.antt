-- The options as the functions of this crate walk them: by places in the packet. Only contracts inside this crate cite this.
use Rattle.std.specs.Prelude.{ℕ, ◌+◌, ◌-◌, ◌≤◌, ◌≡◌, Bool, true, false, cond, is_some, List, [], ◌∷◌, ltb, leb, eqb, length, get_or, drop, Option, Some, None, Result, Ok, Err}
use Rattle.leasepacket.specs.declared.options.Place.{Place}
use Rattle.leasepacket.specs.declared.options.Fault.{Fault}
use Rattle.leasepacket.specs.declared.options.Fault.TheVariants.{Broken, Repeated}
use Rattle.leasepacket.specs.declared.options.Places.{Places}
use Rattle.leasepacket.specs.Packet.{part, message_type, client_id}
use Rattle.leasepacket.specs.Options.{values_in, has_options}
use Rattle.leasepacket.specs.Occurrence.{Occurrence}
use Rattle.leasepacket.specs.Query.{asking, first_of, refusals, key_of}
use Rattle.leasepacket.specs.Reading.{id_place}

-- one more option of the code that is looked for, with its value at a place
abbrev pub noted_of : Occurrence → Place → Occurrence
noted_of (Ok None) place = Ok (Some place)
noted_of (Ok (Some _)) place = Err Repeated
noted_of (Err fault) place = Err fault

-- the value of an option whose length octet stands at a place
abbrev pub place_behind : List ℕ → ℕ → Place
place_behind s at = record { at = at + 2; len = get_or s (at + 1) 0 }

-- what stands at a place
unfoldable pub step_of : List ℕ → ℕ → ℕ → Occurrence → Result (Option (ℕ × Occurrence)) Fault
step_of s code at seen =
    cond (leb (length s) at) (Err Broken)
    (cond (eqb (get_or s at 0) 255) (Ok None)
    (cond (eqb (get_or s at 0) 0) (Ok (Some (at + 1, seen)))
    (cond (ltb (length s - at) 2) (Err Broken)
    (cond (ltb (length s - at - 2) (get_or s (at + 1) 0)) (Err Broken)
    (Ok (Some (at + 2 + get_or s (at + 1) 0, cond (eqb (get_or s at 0) code) (noted_of seen (place_behind s at)) seen)))))))

-- the values at a place of the packet: one or none
abbrev pub value : List ℕ → Option Place → List (List ℕ)
value s None = []
value s (Some q) = part s q.at q.len ∷ []

-- a place lies inside the packet
abbrev pub In : List ℕ → Option Place → Type 0
In s None = Unit {0}
In s (Some q) = q.at + q.len ≤ length s

-- the options of a code in a packet are what stands at a place, inside the packet
pub record ReadAs (code : ℕ) (p : List ℕ) (place : Option Place) : Type 0 where
  pub are : values_in code p ≡ value p place
  pub inside : In p place

-- a place is the one of the client id, if there is one
abbrev pub Stands : List ℕ → Option Place → Type 0
Stands p None = Unit {0}
Stands p (Some q) = q.at ≡ id_place p

-- what a walk through the options of a packet found
abbrev pub Tells : List ℕ → Result Places Fault → Type 0
Tells p (Ok w) = (has_options p ≡ true) × ReadAs message_type p w.kind × ReadAs client_id p w.id × Stands p w.id
Tells p (Err fault) = has_options p ≡ false

-- the first n refusals do not apply to a packet
abbrev pub Past : ℕ → List ℕ → Type 0
Past n p = asking p ≡ first_of (drop n (refusals p)) (key_of p)

-- nor, and its client id stands at a place
pub record Passed (n : ℕ) (p : List ℕ) (id : Option Place) : Type 0 where
  pub long : 240 ≤ length p
  pub past : Past n p
  pub ids : ReadAs client_id p id
  pub stands : Stands p id

-- how many keys there are of an address, a hardware key and a client id
abbrev pub key_count : ℕ → Bool → Option Place → ℕ
key_count address hardware id = cond (eqb address 0) 0 1 + cond hardware 1 0 + cond (is_some id) 1 0
