-- What the general laws ask of entries holds of servers, and the laws of the list's form. Assumes nothing.
use mathlib.Core.Path.{◌≡◌, refl, ap, sym, ◌∙◌}
use mathlib.Core.Bool.{Bool, true, false, ◌&&◌, and-false}
use mathlib.Core.List.{List}
use Prim.Native.Nat.{ℕ, ◌≤◌, ◌<◌}
use lib.Dec.{leb}
use borrow.Author.Tests.{le-leb, lt-leb, leb-true}
use Rattle.octets.specs.Compare.{same_octets}
use Rattle.octets.proofs.BoolLaws.{and_left, and_right}
use Rattle.octets.proofs.CompareLaws.{same_self, same_true}
use Rattle.clock.specs.Clock.{is_moment}
use Rattle.clock.specs.declared.Moment.{Moment}
use Rattle.entries.specs.Entries.{places, is_orderly, unexpired}
use Rattle.entries.proofs.SoundLaws.{Lawful}
use Rattle.serverlist.specs.Servers.{servers, held, packed, is_sound}
use Rattle.serverlist.specs.Places.{at_clock}
use Rattle.serverlist.specs.declared.ServerList.{ServerList}

pub lawful : Lawful servers
lawful =
    record {
      made = λ a m. refl;
      kept = λ m e. refl;
      timed = λ a m. refl;
      retimed = λ m e. refl;
      self = λ a. same_self a.octets;
      turned = λ a b. turned a.octets b.octets;
      along = λ a b c h. ap (λ (s : List ℕ). same_octets s c.octets) (same_true a.octets b.octets h);
    }
  where
    turned : (x y : List ℕ) → same_octets x y ≡ same_octets y x
    turned x y = go (same_octets x y) refl (same_octets y x) refl
      where
        go : (b : Bool) → same_octets x y ≡ b → (c : Bool) → same_octets y x ≡ c → b ≡ c
        go true p c q = sym (sym q ∙ ap (same_octets y) (same_true x y p) ∙ same_self y)
        go false p true q = sym p ∙ ap (same_octets x) (same_true y x q) ∙ same_self x
        go false p false q = refl

module _ (l : ServerList) where
  pub too_many : places < l.count → is_sound l ≡ false
  unfolding is_sound
  too_many h = rw (lt-leb l.count places h)

  pub no_moment : is_moment l.clock ≡ false → is_sound l ≡ false
  unfolding is_sound
  no_moment h = rw (h, and-false)

  pub sound_if : l.count ≤ places → is_moment l.clock ≡ true → is_sound l ≡ is_orderly servers (held l)
  unfolding is_sound
  sound_if h k = rw (le-leb l.count places h, k)

  pub sound_count : is_sound l ≡ true → l.count ≤ places
  unfolding is_sound
  sound_count h = leb-true l.count places (and_left (leb l.count places) (is_moment l.clock) (and_left (leb l.count places && is_moment l.clock) (is_orderly servers (held l)) h))

  pub sound_orderly : is_sound l ≡ true → is_orderly servers (held l) ≡ true
  unfolding is_sound
  sound_orderly h = and_right (leb l.count places && is_moment l.clock) (is_orderly servers (held l)) h

  pub at_clock_fits : (clock : Moment) → l.count ≤ places → at_clock clock l ≡ packed clock (unexpired servers clock (held l))
  at_clock_fits clock h = rw (le-leb l.count places h)
