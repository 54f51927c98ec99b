-- What a box reads of a query that a desk wrote, one law for each check, and what is asked for where they pass. Assumes nothing.
use Prim.Native.Nat.{ℕ, ◌+◌, ◌≤◌}
use mathlib.Core.Path.{◌≡◌, refl, sym, ap, ◌∙◌}
use mathlib.Core.Bool.{Bool, true, false, not, ◌||◌, or-true}
use mathlib.Core.List.{List, [], ◌∷◌, ◌++◌, append_assoc}
use mathlib.Core.Logic.{◌⊎◌, inl, inr}
use mathlib.Core.Option.{none, some}
use native.Mathlib.Omega.{arith}
use borrow.Table.Steps.{cases}
use borrow.Author.Tests.{eq-eqb, ne_eqb, le-leb}
use lib.Dec.{eqb}
use lib.ListN.{length, replicate, length-append, length-replicate}
use Rattle.octets.specs.Compare.{same_octets}
use Rattle.octets.specs.Number.{big_endian}
use Rattle.octets.proofs.NumberLaws.{length_big_endian, number_big_endian}
use Rattle.leasepacket.specs.Packet as read
use Rattle.leasepacket.specs.Packet.{part, option_area, is_packet}
use Rattle.leasepacket.specs.Layout.{fixed_fields, option}
use Rattle.leasepacket.specs.Options.{Opt, followed, options, values, values_of, values_in, has_options, only_of}
use Rattle.leasepacket.specs.Requested.{request_list}
use Rattle.leasepacket.specs.Query.{Asked, refused, any_set, has_hardware_key, keys, key_of, has_bad_length, refusals, first_of, asking}
use Rattle.leasepacket.proofs.LayoutLaws.{Sized, read_op, read_ciaddr, read_giaddr, read_chaddr, read_area, read_packet, read_option}
use Rattle.deskquery.specs.Query.{packet}
use Rattle.deskclaims.specs.Asks.{Address}

-- ---- the checks of any packet
module _ (p : List ℕ) where
  -- where every check passes, the packet asks for its key
  pub passes : (os : List Opt) → is_packet p ≡ true → read.op p ≡ 1 → options 0 (option_area p) ≡ some os → values 53 os ≡ (10 ∷ []) ∷ [] → length (values 61 os) ≤ 1 → values 55 os ≡ [] → (read.giaddr p ≡ 0 → ⊥) → keys p ≡ 1 → has_bad_length p ≡ false → asking p ≡ key_of p
  unfolding asking refusals first_of has_options same_octets
  passes os a b c d e l f g h = rw (a, eq-eqb (read.op p) 1 b, c, d, le-leb (length (values 61 os)) 1 e, l, ne_eqb (read.giaddr p) 0 f, eq-eqb (keys p) 1 g, h)

-- some check of a list does not pass
abbrev Applies : List (ℕ × Bool) → Type 0
Applies [] = ⊥
Applies (r ∷ rs) = (r.1 ≡ true) ⊎ Applies rs

first_refused : (rs : List (ℕ × Bool)) (key : Asked) → Applies rs → (n : ℕ) × (first_of rs key ≡ refused n)
unfolding first_of
first_refused [] key a = absurd a
first_refused (r ∷ rs) key (inl t) = (r.0, rw t)
first_refused (r ∷ rs) key (inr a) = cases r.1 (λ t. (r.0, rw t)) (λ t. let s = first_refused rs key a in (s.0, rw t s.1))

module _ (p : List ℕ) where
  -- a giaddr of zero, other than one key, or a length that a key can't have: each is refused with a number, its own or one before it
  pub refused_giaddr : read.giaddr p ≡ 0 → (n : ℕ) × (asking p ≡ refused n)
  unfolding asking refusals
  refused_giaddr e = first_refused (refusals p) (key_of p) (inr (inr (inr (inr (inl (eq-eqb (read.giaddr p) 0 e))))))

  pub refused_keys : (keys p ≡ 1 → ⊥) → (n : ℕ) × (asking p ≡ refused n)
  unfolding asking refusals
  refused_keys e = first_refused (refusals p) (key_of p) (inr (inr (inr (inr (inr (inl (ap not (ne_eqb (keys p) 1 e))))))))

  pub refused_length : has_bad_length p ≡ true → (n : ℕ) × (asking p ≡ refused n)
  unfolding asking refusals
  refused_length e = first_refused (refusals p) (key_of p) (inr (inr (inr (inr (inr (inr (inl e)))))))

-- ---- a query with the fields of a key, and with the option of a client id or none
abbrev kind : Opt
kind = record { code = 53; octets = 10 ∷ [] }

module _ (xid giaddr ciaddr htype hlen : ℕ) (chaddr id : List ℕ) where
  abbrev fields : List ℕ
  fields = fixed_fields 1 htype hlen (big_endian 4 xid) (replicate 2 0) (big_endian 4 ciaddr) (big_endian 4 giaddr) chaddr

  abbrev area : List ℕ
  area = option 53 (10 ∷ []) ++ (id ++ (255 ∷ []))

  abbrev query : List ℕ
  query = packet xid giaddr ciaddr htype hlen chaddr id

  parts : query ≡ fields ++ area
  unfolding packet
  parts = append_assoc (fields ++ option 53 (10 ∷ [])) id (255 ∷ []) ∙ append_assoc fields (option 53 (10 ∷ [])) (id ++ (255 ∷ []))

  -- htype and hlen are read whatever chaddr is
  pub htype_is : read.htype query ≡ htype
  unfolding packet fixed_fields
  htype_is = refl

  pub hlen_is : read.hlen query ≡ hlen
  unfolding packet fixed_fields
  hlen_is = refl

  first_two : part query 1 2 ≡ htype ∷ hlen ∷ []
  unfolding packet fixed_fields
  first_two = refl

  -- with an hlen there is a hardware key
  pub hardware_there : (hlen ≡ 0 → ⊥) → has_hardware_key query ≡ true
  unfolding has_hardware_key any_set
  hardware_there h = rw (first_two, ne_eqb hlen 0 h, or-true (not (eqb htype 0)))

  module _ (l : length chaddr ≡ 16) where
    sized : Sized (big_endian 4 xid) (replicate 2 0) (big_endian 4 ciaddr) (big_endian 4 giaddr) chaddr
    sized = record { xid_4 = length_big_endian 4 xid; flags_2 = length-replicate {A = ℕ} 2 0; ciaddr_4 = length_big_endian 4 ciaddr; giaddr_4 = length_big_endian 4 giaddr; chaddr_16 = l }

    pub packet_is : length id ≤ 257 → is_packet query ≡ true
    packet_is h =
        let n : length (id ++ (255 ∷ [])) ≡ length id + 1 = length-append id (255 ∷ []) in
        ap is_packet parts ∙ read_packet 1 htype hlen (big_endian 4 xid) (replicate 2 0) (big_endian 4 ciaddr) (big_endian 4 giaddr) chaddr sized area (omega (arith, n, h))

    pub op_is : read.op query ≡ 1
    op_is = ap read.op parts ∙ read_op 1 htype hlen (big_endian 4 xid) (replicate 2 0) (big_endian 4 ciaddr) (big_endian 4 giaddr) chaddr sized area

    pub ciaddr_is : Address ciaddr → read.ciaddr query ≡ ciaddr
    ciaddr_is h = ap read.ciaddr parts ∙ read_ciaddr 1 htype hlen (big_endian 4 xid) (replicate 2 0) (big_endian 4 ciaddr) (big_endian 4 giaddr) chaddr sized area ∙ number_big_endian 4 ciaddr h

    pub giaddr_is : Address giaddr → read.giaddr query ≡ giaddr
    giaddr_is h = ap read.giaddr parts ∙ read_giaddr 1 htype hlen (big_endian 4 xid) (replicate 2 0) (big_endian 4 ciaddr) (big_endian 4 giaddr) chaddr sized area ∙ number_big_endian 4 giaddr h

    pub chaddr_is : read.chaddr query ≡ chaddr
    chaddr_is = ap read.chaddr parts ∙ read_chaddr 1 htype hlen (big_endian 4 xid) (replicate 2 0) (big_endian 4 ciaddr) (big_endian 4 giaddr) chaddr sized area

    pub hardware_is : has_hardware_key query ≡ (any_set (htype ∷ hlen ∷ []) || any_set chaddr)
    unfolding has_hardware_key
    hardware_is = rw (first_two, chaddr_is)

    -- the message type stands before the options that follow it
    pub options_are : (os : List Opt) → options 0 (id ++ (255 ∷ [])) ≡ some os → options 0 (option_area query) ≡ some (kind ∷ os)
    options_are os e =
        ap (λ (x : List ℕ). options 0 (option_area x)) parts
        ∙ ap (options 0) (read_area 1 htype hlen (big_endian 4 xid) (replicate 2 0) (big_endian 4 ciaddr) (big_endian 4 giaddr) chaddr sized area)
        ∙ read_option 53 (record { not_padding = λ z. omega (arith, z); not_end = λ z. omega (arith, z) }) (id ++ (255 ∷ [])) (10 ∷ [])
        ∙ ap (followed kind) e

    module _ (os : List Opt) (o : options 0 (id ++ (255 ∷ [])) ≡ some os) where
      pub ids_are : values_in 61 query ≡ values 61 os
      unfolding values
      ids_are = ap (values_of 61) (options_are os o)

      -- a list can only be among them
      pub no_list : values 55 os ≡ [] → request_list query ≡ none
      unfolding values
      no_list l = ap only_of (ap (values_of 55) (options_are os o) ∙ l)

      -- with a giaddr, one message type and one key of a length that it may have, every check passes
      pub takes : Address giaddr → (giaddr ≡ 0 → ⊥) → length id ≤ 257 → values 53 os ≡ [] → length (values 61 os) ≤ 1 → values 55 os ≡ [] → keys query ≡ 1 → has_bad_length query ≡ false → asking query ≡ key_of query
      unfolding values
      takes g n h v i l k b =
          passes query (kind ∷ os) (packet_is h) op_is (options_are os o) (ap (λ (vs : List (List ℕ)). (10 ∷ []) ∷ vs) v) i l
          (λ z. n (sym (giaddr_is g) ∙ z)) k b
