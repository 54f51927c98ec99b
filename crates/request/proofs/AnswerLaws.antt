-- The numbers of answers, for crates that read them. Assumes nothing.
use mathlib.Core.Path.{◌≡◌, refl}
use Rattle.update.specs.Rules.{success, NXDOMAIN, YXDOMAIN, YXRRSET, NXRRSET, no_room}
use Rattle.request.specs.Promise.{number_of}

pub number_success : number_of success ≡ 0
unfolding number_of
number_success = refl

pub number_nxdomain : number_of NXDOMAIN ≡ 3
unfolding number_of
number_nxdomain = refl

pub number_yxdomain : number_of YXDOMAIN ≡ 6
unfolding number_of
number_yxdomain = refl

pub number_yxrrset : number_of YXRRSET ≡ 7
unfolding number_of
number_yxrrset = refl

pub number_nxrrset : number_of NXRRSET ≡ 8
unfolding number_of
number_nxrrset = refl

pub number_no_room : number_of no_room ≡ 256
unfolding number_of
number_no_room = refl
