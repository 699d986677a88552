-- The answer's words. Assumes nothing.
use Rattle.laws.proofs.Prelude.{◌≡◌, refl, ap, ◌∙◌, ◌+◌, length}
use Rattle.words.{specs.Words.{word, float, vec, bits, flag, Holds}, proofs.{WordsBack.{word_back, bits_back, float_back, vec_back, flag_lt}, Written.length_bytes_of}}
use Rattle.joint_tick.specs.declared.state.Answer.{Answer}
use Rattle.image.specs.{Layout.{TORQUE, COMMAND, FLAG, TIME, PSI, MARGIN, answer_bytes}, Inputs.{words_of_answer, answer_of}, Fits.{F32, FitsVec}}

answer_is : (a : Answer) → Holds (answer_of a) (words_of_answer a)
unfolding answer_of
answer_is a = record { is = refl }

pub answer_length : (a : Answer) → length (answer_of a) ≡ answer_bytes
answer_length a = ap length (answer_is a).is ∙ length_bytes_of (words_of_answer a)

pub command_answered : (a : Answer) → FitsVec a.command.0 → vec (answer_of a) COMMAND ≡ a.command.0
command_answered a f = vec_back (answer_is a) COMMAND a.command.0 refl f

-- 1 where the command is the fallback's, else 0
pub flag_answered : (a : Answer) → word (answer_of a) FLAG ≡ flag a.fallback
flag_answered a = word_back (answer_is a) FLAG refl (flag_lt a.fallback)

pub margin_answered : (a : Answer) → F32 a.margin → float (answer_of a) MARGIN ≡ a.margin
margin_answered a f = float_back (answer_is a) MARGIN a.margin refl f

-- the same by their words, in which a NaN is 0x7fc0_0000
pub margin_word : (a : Answer) → F32 a.margin → word (answer_of a) MARGIN ≡ bits a.margin
margin_word a f = bits_back (answer_is a) MARGIN a.margin refl f

pub third_torque_word : (a : Answer) → F32 a.torque.0.2 → word (answer_of a) (TORQUE + 2) ≡ bits a.torque.0.2
third_torque_word a f = bits_back (answer_is a) (TORQUE + 2) a.torque.0.2 refl f

pub command_words_lem : (a : Answer) → FitsVec a.command.0
    → (word (answer_of a) COMMAND ≡ bits a.command.0.0) × (word (answer_of a) (COMMAND + 1) ≡ bits a.command.0.1) × (word (answer_of a) (COMMAND + 2) ≡ bits a.command.0.2)
command_words_lem a f =
    let at = bits_back (answer_is a) in
    (at COMMAND a.command.0.0 refl f.0, at (COMMAND + 1) a.command.0.1 refl f.1.0, at (COMMAND + 2) a.command.0.2 refl f.1.1.0)

pub torque_answered : (a : Answer) → FitsVec a.torque.0 → vec (answer_of a) TORQUE ≡ a.torque.0
torque_answered a f = vec_back (answer_is a) TORQUE a.torque.0 refl f

pub time_answered : (a : Answer) → F32 a.time → float (answer_of a) TIME ≡ a.time
time_answered a f = float_back (answer_is a) TIME a.time refl f

pub psi_word : (a : Answer) → F32 a.psi → word (answer_of a) PSI ≡ bits a.psi
psi_word a f = bits_back (answer_is a) PSI a.psi refl f
