-- Of each public function here: no second answer fits its promise. Assumes nothing.
use Rattle.laws.proofs.Prelude.{refl}
use Rattle.laws.proofs.Determined.{OneAnswer, no_second}
use Rattle.joint_tick.specs.contracts as promised
use Rattle.joint_tick.proofs.profile
use Rattle.joint_tick.proofs.setup
use Rattle.joint_tick.proofs.stages

pub profile_to_word_once : OneAnswer promised.profile.U32FromProfile.from.ended profile.U32FromProfile.from.Reads.Post
profile_to_word_once κs a x y v w p q = (no_second p q, refl)

pub word_to_profile_once : OneAnswer promised.profile.ProfileTryFromU32.try_from.ended profile.ProfileTryFromU32.try_from.Reads.Post
word_to_profile_once κs a x y v w p q = (no_second p q, refl)

pub profile_word_once : OneAnswer promised.profile.profile_word.ended profile.profile_word.Reads.Post
profile_word_once κs a x y v w p q = (no_second p q, refl)

pub is_profile_once : OneAnswer promised.profile.is_profile.ended profile.is_profile.Reads.Post
is_profile_once κs a x y v w p q = (no_second p q, refl)

pub profile_of_once : OneAnswer promised.profile.profile_of.ended profile.profile_of.Reads.Post
profile_of_once κs a x y v w p q = (no_second p q, refl)

pub segment_of_once : OneAnswer promised.setup.segment_of.ended setup.segment_of.Reads.Post
segment_of_once κs a x y v w p q = (no_second p q, refl)

pub set_up_once : OneAnswer promised.setup.set_up.ended setup.set_up.Reads.Post
set_up_once κs a x y v w p q = (no_second p q, refl)

pub exchange_once : OneAnswer promised.setup.exchange.ended setup.exchange.Reads.Post
exchange_once κs a x y v w p q = (no_second p q, refl)

pub prepare_once : OneAnswer promised.stages.prepare.ended stages.prepare.Reads.Post
prepare_once κs a x y v w p q = (no_second p q, refl)

pub reference_at_once : OneAnswer promised.stages.reference_at.ended stages.reference_at.Reads.Post
reference_at_once κs a x y v w p q = (no_second p q, refl)

pub guide_pick_follow_once : OneAnswer promised.stages.guide_pick_follow.ended stages.guide_pick_follow.Reads.Post
guide_pick_follow_once κs a x y v w p q = (no_second p q, refl)

pub sample_at_once : OneAnswer promised.stages.sample_at.ended stages.sample_at.Reads.Post
sample_at_once κs a x y v w p q = (no_second p q, refl)
