-- What a query asks for by each key that a call is handed, and that one without a key, or with one of a wrong length, is refused. Assumes nothing.
use Prim.Native.Nat.{ℕ, ◌≤◌, ◌<◌}
use mathlib.Core.Path.{◌≡◌, refl, sym, ap, ◌∙◌}
use mathlib.Core.Bool.{true, false, or-true}
use mathlib.Core.List.{List, [], ◌∷◌, ◌++◌}
use mathlib.Core.Option.{none, some}
use native.Mathlib.Omega.{arith}
use borrow.Table.Steps.{cases}
use borrow.Author.Tests.{eq-eqb, ne_eqb, lt-ltb, le-ltb}
use lib.Dec.{eqb}
use lib.ListN.{length, replicate, length-append, length-drop, length-replicate}
use Rattle.octets.specs.Write.{laid}
use Rattle.leasepacket.specs.Packet as read
use Rattle.leasepacket.specs.Layout.{option}
use Rattle.leasepacket.specs.Options.{Opt, followed, options, values, values_in}
use Rattle.leasepacket.specs.Requested.{request_list}
use Rattle.leasepacket.specs.Query.{refused, by_address, by_hardware, by_client_id, any_set, has_hardware_key, keys, has_bad_length, asking}
use Rattle.leasepacket.proofs.LayoutLaws.{read_option, read_end}
use Rattle.leasepacket.proofs.QueryLaws.{keys_zero, keys_some, key_is, length_is}
use Rattle.deskquery.specs.Query.{packet}
use Rattle.deskclaims.specs.Asks.{Address}
use Rattle.deskclaims.proofs.PacketLaws.{refused_keys, refused_length, htype_is, hlen_is, hardware_there, ciaddr_is, chaddr_is, hardware_is, ids_are, no_list, takes}

-- the 16 octets of chaddr where there is no hardware address
abbrev pub none_set : List ℕ
none_set = replicate 16 0

pub zeros : length none_set ≡ 16
zeros = length-replicate {A = ℕ} 16 0

module _ (xid giaddr : ℕ) where
  -- by address: no hardware key, no client id
  module _ (a : ℕ) (w : Address a) where
    abbrev by_address_lem : List ℕ
    by_address_lem = packet xid giaddr a 0 0 none_set []

    address_hardware : has_hardware_key by_address_lem ≡ false
    unfolding any_set
    address_hardware = hardware_is xid giaddr a 0 0 none_set [] zeros

    address_ids : values_in 61 by_address_lem ≡ []
    unfolding values
    address_ids = ids_are xid giaddr a 0 0 none_set [] zeros [] (read_end [])

    pub address_no_list : request_list by_address_lem ≡ none
    unfolding values
    address_no_list = no_list xid giaddr a 0 0 none_set [] zeros [] (read_end []) refl

    pub asks_address : Address giaddr → (giaddr ≡ 0 → ⊥) → (a ≡ 0 → ⊥) → asking by_address_lem ≡ by_address a
    unfolding values
    asks_address g n m =
        let c = ciaddr_is xid giaddr a 0 0 none_set [] zeros w in
        takes xid giaddr a 0 0 none_set [] zeros [] (read_end []) g n (omega arith) refl (omega arith) refl
        (keys_some by_address_lem false [] address_hardware address_ids (λ z. m (sym c ∙ z)))
        (length_is by_address_lem false [] address_hardware address_ids)
        ∙ key_is by_address_lem false [] address_hardware address_ids
        ∙ ap by_address c

    pub no_address : a ≡ 0 → (n : ℕ) × (asking by_address_lem ≡ refused n)
    no_address z =
        let c = ciaddr_is xid giaddr a 0 0 none_set [] zeros w in
        let k : keys by_address_lem ≡ 0 = keys_zero by_address_lem false [] address_hardware address_ids (c ∙ z) in
        refused_keys by_address_lem (λ e. omega (arith, k, e))

  -- by hardware address: no address, no client id
  module _ (htype hlen : ℕ) (chaddr : List ℕ) where
    abbrev by_hardware_lem : List ℕ
    by_hardware_lem = packet xid giaddr 0 htype hlen chaddr []

    module _ (l : length chaddr ≡ 16) where
      hardware_ids : values_in 61 by_hardware_lem ≡ []
      unfolding values
      hardware_ids = ids_are xid giaddr 0 htype hlen chaddr [] l [] (read_end [])

      pub hardware_no_list : request_list by_hardware_lem ≡ none
      unfolding values
      hardware_no_list = no_list xid giaddr 0 htype hlen chaddr [] l [] (read_end []) refl

      pub asks_hardware : Address giaddr → (giaddr ≡ 0 → ⊥) → 1 ≤ hlen → hlen ≤ 16 → asking by_hardware_lem ≡ by_hardware htype hlen chaddr
      unfolding values
      asks_hardware g n least most =
          let h = hardware_there xid giaddr 0 htype hlen chaddr [] (λ z. omega (arith, z, least)) in
          let t = htype_is xid giaddr 0 htype hlen chaddr [] in
          let b = hlen_is xid giaddr 0 htype hlen chaddr [] in
          let c = chaddr_is xid giaddr 0 htype hlen chaddr [] l in
          takes xid giaddr 0 htype hlen chaddr [] l [] (read_end []) g n (omega arith) refl (omega arith) refl
          (keys_zero by_hardware_lem true [] h hardware_ids (ciaddr_is xid giaddr 0 htype hlen chaddr [] l (omega arith)))
          (length_is by_hardware_lem true [] h hardware_ids ∙ rw (b, ne_eqb hlen 0 (λ z. omega (arith, z, least)), le-ltb 16 hlen most))
          ∙ key_is by_hardware_lem true [] h hardware_ids
          ∙ rw (t, b, c)

      -- with no octets there is no key at all, or one of the length 0
      pub no_hardware : hlen ≡ 0 → (n : ℕ) × (asking by_hardware_lem ≡ refused n)
      unfolding has_bad_length
      no_hardware z =
          cases (has_hardware_key by_hardware_lem)
          (λ h. refused_length by_hardware_lem (rw (h, eq-eqb (read.hlen by_hardware_lem) 0 (hlen_is xid giaddr 0 htype hlen chaddr [] ∙ z))))
          (λ h. let k : keys by_hardware_lem ≡ 0 = keys_zero by_hardware_lem false [] h hardware_ids (ciaddr_is xid giaddr 0 htype hlen chaddr [] l (omega arith)) in
          refused_keys by_hardware_lem (λ e. omega (arith, k, e)))

    -- an hlen above 16 is refused whatever stands behind it
    pub long_hardware : 16 < hlen → (n : ℕ) × (asking by_hardware_lem ≡ refused n)
    unfolding has_bad_length
    long_hardware m =
        let h = hardware_there xid giaddr 0 htype hlen chaddr [] (λ z. omega (arith, z, m)) in
        refused_length by_hardware_lem (rw (h, hlen_is xid giaddr 0 htype hlen chaddr [], lt-ltb 16 hlen m, or-true (eqb hlen 0)))

  -- by client id: no address, no hardware key
  module _ (id : List ℕ) where
    abbrev by_id : List ℕ
    by_id = packet xid giaddr 0 0 0 none_set (option 61 id)

    abbrev id_option : Opt
    id_option = record { code = 61; octets = id }

    id_read : options 0 (option 61 id ++ (255 ∷ [])) ≡ some (id_option ∷ [])
    id_read = read_option 61 (record { not_padding = λ z. omega (arith, z); not_end = λ z. omega (arith, z) }) (255 ∷ []) id ∙ ap (followed id_option) (read_end [])

    id_hardware : has_hardware_key by_id ≡ false
    unfolding any_set
    id_hardware = hardware_is xid giaddr 0 0 0 none_set (option 61 id) zeros

    id_ids : values_in 61 by_id ≡ id ∷ []
    unfolding values
    id_ids = ids_are xid giaddr 0 0 0 none_set (option 61 id) zeros (id_option ∷ []) id_read

    pub id_no_list : request_list by_id ≡ none
    unfolding values
    id_no_list = no_list xid giaddr 0 0 0 none_set (option 61 id) zeros (id_option ∷ []) id_read refl

    pub asks_id : Address giaddr → (giaddr ≡ 0 → ⊥) → 2 ≤ length id → length id ≤ 255 → asking by_id ≡ by_client_id id
    unfolding values
    asks_id g n least most =
        takes xid giaddr 0 0 0 none_set (option 61 id) zeros (id_option ∷ []) id_read g n (omega (arith, most)) refl (omega arith) refl
        (keys_zero by_id false (id ∷ []) id_hardware id_ids (ciaddr_is xid giaddr 0 0 0 none_set (option 61 id) zeros (omega arith)))
        (length_is by_id false (id ∷ []) id_hardware id_ids ∙ le-ltb (length id) 2 least)
        ∙ key_is by_id false (id ∷ []) id_hardware id_ids

    pub short_id : length id < 2 → (n : ℕ) × (asking by_id ≡ refused n)
    short_id h = refused_length by_id (length_is by_id false (id ∷ []) id_hardware id_ids ∙ lt-ltb (length id) 2 h)

-- the octets of chaddr with those of a hardware address
pub padded : (octets : List ℕ) → length octets ≤ 16 → length (laid octets none_set) ≡ 16
unfolding laid
padded octets h = simp (length-append, length-drop, zeros) (omega (arith, h))
