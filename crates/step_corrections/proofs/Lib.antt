-- Laws on the rules that change no line.
pub mod LinesStay
