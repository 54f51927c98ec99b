-- Values that a program can hold: structs with arrays of their full lengths and octets in every field, and lists of steps made of such.
use Rattle.std.specs.Prelude.{◌≡◌, Bool, true, ◌&&◌, List, [], ◌∷◌, ◌++◌, ℕ, ltb, length}
use Rattle.zone.specs.declared.Zone.{Zone}
use Rattle.lentzone.specs.Encode.{SizedEntries, octets_of}
use Rattle.job.specs.declared.job.Job.{Job}
use Rattle.serial.specs.Steps.{Steps, start, stepped, refused}
use Rattle.serial.specs.Running.{running}

-- Each number is an octet's.
unfoldable pub are_octets : List ℕ → Bool
are_octets [] = true
are_octets (x ∷ l) = ltb x 256 && are_octets l

-- A zone's struct: 64 places, arrays of the lengths that the struct gives them, and octets in all its fields.
pub record ZoneValue (z : Zone) : Type 0 where
  pub sizes : SizedEntries 64 z.entries
  pub octets : are_octets (octets_of z) ≡ true

-- The octets of a lent zone.
pub record LentValue (z : List ℕ) : Type 0 where
  pub size : length z ≡ 23936
  pub octets : are_octets z ≡ true

-- A job's struct.
pub record JobValue (j : Job) : Type 0 where
  pub name : length j.name.octets ≡ 255
  pub dhcid : length j.dhcid.octets ≡ 35
  pub address : length j.address.octets ≡ 16
  pub octets : are_octets (j.stage ∷ j.count ∷ j.family ∷ j.policy ∷ j.name.len ∷ (j.name.octets ++ (j.dhcid.octets ++ j.address.octets))) ≡ true

-- Each job of a list.
unfoldable pub Values : List Job → Type 0
Values [] = Unit
Values (k ∷ ks) = JobValue k × Values ks

-- The zone and the jobs that a list of steps by value begins with, and what each of its steps returns.
unfoldable pub Held : {z₀ : Zone} {ks₀ : List Job} {z : Zone} {ks : List Job} → Steps running z₀ ks₀ z ks → Type 0
Held {z₀ = z} {ks₀ = ks} start = ZoneValue z × Values ks
Held (stepped l i k r g p q) = Held l × ZoneValue r.zone × JobValue r.job
Held (refused l y k r p q) = Held l
