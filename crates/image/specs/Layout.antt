-- Where each number stands: document 01's word numbers, and 95 to 98 of requests Six and Seven, under the names of src/layout.rt. Definitions only.
use Rattle.std.specs.Prelude.{ℕ, ◌*◌}

-- widths of the parts that stand more than once
abbrev pub vec_words : ℕ
vec_words = 3

abbrev pub quintic_words : ℕ
quintic_words = 7

abbrev pub t_end_word : ℕ
t_end_word = 6  -- of a quintic's words the last

abbrev pub adrc_words : ℕ
adrc_words = 4

abbrev pub axis_words : ℕ
axis_words = 9

abbrev pub biquad_words : ℕ
biquad_words = 9

abbrev pub leg_words : ℕ
leg_words = 19

abbrev pub leg_bytes : ℕ
leg_bytes = 4 * leg_words

-- the image
abbrev pub COUNT : ℕ
COUNT = 0  -- the image's own number of words

abbrev pub GAINS : ℕ
GAINS = 1

abbrev pub SET : ℕ
SET = 10

abbrev pub ENTER : ℕ
ENTER = 13

abbrev pub EXIT : ℕ
EXIT = 14

abbrev pub ENGAGED : ℕ
ENGAGED = 15  -- 1 or 0

abbrev pub GOVERNOR : ℕ
GOVERNOR = 16  -- its time first

abbrev pub SEGMENT : ℕ
SEGMENT = 20

abbrev pub RATE : ℕ
RATE = 41

abbrev pub LPF : ℕ
LPF = 68

abbrev pub PROFILE : ℕ
PROFILE = 95  -- its word: 0 or 1

abbrev pub PEAKS : ℕ
PEAKS = 96  -- of the jerk, axis by axis

abbrev pub image_words : ℕ
image_words = 99

abbrev pub image_bytes : ℕ
image_bytes = 4 * image_words

-- what set-up is given
abbrev pub setup_gains : ℕ
setup_gains = 0

abbrev pub setup_set : ℕ
setup_set = 9

abbrev pub setup_enter : ℕ
setup_enter = 12

abbrev pub setup_exit : ℕ
setup_exit = 13

abbrev pub setup_band : ℕ
setup_band = 14  -- err_lo, err_hi, g_min

abbrev pub setup_leg : ℕ
setup_leg = 17

abbrev pub setup_adrc : ℕ
setup_adrc = 36

abbrev pub setup_fc : ℕ
setup_fc = 48

abbrev pub setup_fs : ℕ
setup_fs = 49

abbrev pub setup_profile : ℕ
setup_profile = 50

abbrev pub setup_words : ℕ
setup_words = 51

abbrev pub setup_bytes : ℕ
setup_bytes = 4 * setup_words

-- what a tick is given
abbrev pub GYRO : ℕ
GYRO = 0

abbrev pub QUAT : ℕ
QUAT = 3

abbrev pub track_err_word : ℕ
track_err_word = 7

abbrev pub YAW : ℕ
YAW = 8

abbrev pub yaw_rate_word : ℕ
yaw_rate_word = 9

abbrev pub DT : ℕ
DT = 10

abbrev pub AGILE : ℕ
AGILE = 11

abbrev pub FRACTION : ℕ
FRACTION = 14

abbrev pub input_words : ℕ
input_words = 17

abbrev pub input_bytes : ℕ
input_bytes = 4 * input_words

-- what a tick answers
abbrev pub TORQUE : ℕ
TORQUE = 0

abbrev pub COMMAND : ℕ
COMMAND = 3

abbrev pub FLAG : ℕ
FLAG = 6  -- 1 where the command is the fallback's, else 0

abbrev pub TIME : ℕ
TIME = 7

abbrev pub PSI : ℕ
PSI = 8

abbrev pub MARGIN : ℕ
MARGIN = 9

abbrev pub answer_words : ℕ
answer_words = 10

abbrev pub answer_bytes : ℕ
answer_bytes = 4 * answer_words
